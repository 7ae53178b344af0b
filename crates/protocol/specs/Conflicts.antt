-- Transactions at the keys of one group: whether two conflict, and whether one passes its checks.
use Rattle.std.specs.Prelude.{◌≡◌, true, ◌⊎◌, ◌↔◌, List}
use Rattle.std.proofs.Math.Option.{Option, some}
use Rattle.protocol.specs.Kinds.{Kinds, Group, Value}
use Rattle.protocol.specs.Lists.{In}
use Rattle.protocol.specs.Transactions.{Txn, Names, Writes}
use Rattle.protocol.specs.Settings.{Setting}

module _ {K : Kinds} where
  -- t names the group g: it names a key of g
  abbrev pub Touches : Setting K → Txn K → Group → Type 0
  Touches W t g = (k : K.Key) × (W.home k ≡ g) × Names t k

  -- the list holds just the groups that t names
  abbrev pub GroupsOf : Setting K → Txn K → List Group → Type 0
  GroupsOf W t gs = (g : Group) → In g gs ↔ Touches W t g

  -- a and b both name a key of g, and at least one of them writes it
  pub record Conflict (W : Setting K) (g : Group) (a b : Txn K) : Type 0 where
    pub key : K.Key
    pub homed : W.home key ≡ g
    pub left : Names a key
    pub right : Names b key
    pub write : Writes a key ⊎ Writes b key

  -- at g, every key that t names has a row, and every compare of t is equal
  pub record Passes (W : Setting K) (g : Group) (t : Txn K) (rows : K.Key → Option Value) : Type 0 where
    pub rowed : (k : K.Key) → W.home k ≡ g → Names t k → (v : Value) × (rows k ≡ some v)
    pub equal : (k : K.Key) (v : Value) → W.home k ≡ g → t.compares k v ≡ true → rows k ≡ some v
