-- Order: what every run keeps of its order makes it one that explains the run.
use Rattle.std.proofs.Common.{List, [], ◌∷◌, refl, le_refl}
use Rattle.protocol.specs.Kinds.{Kinds}
use Rattle.protocol.specs.Lists.{Distinct, Since, now}
use Rattle.protocol.specs.Transactions.{Txn, Names, by_compare}
use Rattle.protocol.specs.Conflicts.{Passes}
use Rattle.protocol.specs.Replicas.{System}
use Rattle.protocol.specs.Steps.{Laws}
use Rattle.protocol.specs.Runs.{Run, place}
use Rattle.protocol.specs.Register.{Takes, register}
use Rattle.protocol.specs.Order.{Stands, IsOrder, Order}
use Rattle.protocol.proofs.Lists.{since_tail}
use Rattle.protocol.proofs.Snapshots.{Inv}
use Rattle.protocol.proofs.Growth.{order}
use Rattle.protocol.proofs.Rows.{row_at_lem, register_passes, sees}

-- the order that a run has, from what it keeps
module _ {K : Kinds} (S : System K) (laws : Laws S) (run : Run K) (ord : List (Txn K)) (inv : Inv S run ord) where
  distinct : (ts : List (Txn K)) → Since ts ord → Distinct ts
  distinct [] s = tt
  distinct (t ∷ ts) s = (λ i. inv.once t ts s t i refl, distinct ts (since_tail t ts s))

  takes : (t : Txn K) (before : List (Txn K)) → Stands t before ord → Takes t (register S before)
  takes t before s =
      record {
        rowed = λ k nk. (passes k nk).rowed k refl nk;
        equal = λ k v e. (passes k (by_compare v e)).equal k v refl e;
      }
    where
      passes : (k : K.Key) → Names t k → Passes S.set (S.set.home k) t (register S before)
      passes k nk = register_passes S run (S.set.home k) laws ord inv t before s (k, refl, nk)

  is_order : IsOrder S run ord
  is_order =
      record {
        holds = inv.holds;
        once = distinct ord now;
        real_time = inv.realtime;
        takes = takes;
        sees = λ t before s past sp g r hon e k hk nk.
            sees S run g laws ord inv t before s (k, hk, nk) past sp r e k hk nk;
        rows = λ g r hon k hk. row_at_lem S run g laws ord inv r hon (place run g r) (le_refl _) k hk;
      }

pub ordered : (K : Kinds) → Order K
ordered K S laws few run a =
    let o = order S laws few run a in (
      o.0,
      is_order S laws run o.0 o.1,
      λ past s. let h = o.2 past s in (h.0, h.1, is_order S laws past h.0 h.2),
    )
