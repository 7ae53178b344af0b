-- A run with one event more keeps the assumptions, if what is posted forges no mark and shares no name.
use Rattle.std.proofs.Common.{◌≡◌, eqb, ◌⊎◌, [], ◌∷◌, sym, subst, inl, inr}
use mathlib.Core.Bool.{false≢true}
use mathlib.Core.Option.{none, some}
use Rattle.protocol.specs.Kinds.{Kinds, Group, Replica}
use Rattle.protocol.specs.Transactions.{Vote, Txn}
use Rattle.protocol.specs.Replicas.{vote_of, System}
use Rattle.protocol.specs.Quorums.{HonestAt, Bears}
use Rattle.protocol.specs.Runs.{post, deliver, Run, posts, status_at, Posted}
use Rattle.protocol.specs.Assumptions.{Unforged, OneBody, Assumptions}
use Rattle.protocol.proofs.Lists.{since_inv, since_nil}
use Rattle.protocol.proofs.Runs.{more_out}

module _ {K : Kinds} (S : System K) where
  -- m bears no honest replica's mark but under a vote that was given
  abbrev pub Given : Run K → K.Message → Type 0
  Given run m =
      (g : Group) (r : Replica) (v : Vote) (x : K.Name) → HonestAt S.set g r → Bears S.set m g r v x →
      vote_of (status_at S run g r x) ≡ some v

  -- a message that is no certificate bears none
  pub given_none : (run : Run K) (m : K.Message) → S.set.certificate m ≡ none → Given run m
  given_none run m e g r v x hon b = let f = b.reads in absurd (false≢true (cc))

  -- if m is a body, no other that was posted has its name
  abbrev pub Alone : Run K → K.Message → Type 0
  Alone run m = (g : Group) (t u : Txn K) → S.set.body m ≡ some t → Posted S run g u → t.name ≡ u.name → t ≡ u

  pub alone_none : (run : Run K) (m : K.Message) → S.set.body m ≡ none → Alone run m
  alone_none run m e g t u b p n = absurd (false≢true (cc))

  pub assumed_empty : Assumptions S []
  assumed_empty =
      record { unforged = λ past h m s. absurd (since_nil (post h m) past s); one_body = λ g h t u p. absurd p.1 }

  pub assumed_post : (run : Run K) (h : Group) (m : K.Message) → Assumptions S run → Given run m → Alone run m →
      Assumptions S (post h m ∷ run)
  assumed_post run h m k given alone = record { unforged = unforged; one_body = one_body }
    where
      unforged : Unforged S (post h m ∷ run)
      unforged past i n s g r v x hon b =
          elim (since_inv (post i n ∷ past) (post h m) run s) [
            | inl e ↦
                let pr : past ≡ run = cc in
                let nm : n ≡ m = cc in
                subst (λ z. vote_of (status_at S z g r x) ≡ some v) (sym pr)
                (given g r v x hon (subst (λ z. Bears S.set z g r v x) nm b))
            | inr older ↦ k.unforged past i n older g r v x hon b
          ]

      old : (g : Group) (t : Txn K) → Posted S (post h m ∷ run) g t → Posted S run g t ⊎ (S.set.body m ≡ some t)
      old g t (n, i, b) = elim (more_out (eqb h g) m n (posts run g) i) [ inl j ↦ inl (n, j, b) | inr e ↦ inr (cc) ]

      one_body : OneBody S (post h m ∷ run)
      one_body g i t u p q e =
          elim (old g t p) [
            | inl pt ↦
                elim (old i u q) [ inl pu ↦ k.one_body g i t u pt pu e | inr bu ↦ sym (alone g u t bu pt (sym e)) ]
            | inr bt ↦ elim (old i u q) [ inl pu ↦ alone i t u bt pu e | inr bu ↦ cc ]
          ]

  pub assumed_deliver : (run : Run K) (h : Group) (q : Replica) → Assumptions S run → Assumptions S (deliver h q ∷ run)
  assumed_deliver run h q k = record { unforged = unforged; one_body = k.one_body }
    where
      unforged : Unforged S (deliver h q ∷ run)
      unforged past i n s g r v x hon b =
          elim (since_inv (post i n ∷ past) (deliver h q) run s) [
            | inl e ↦ absurd (false≢true (cc))
            | inr older ↦ k.unforged past i n older g r v x hon b
          ]
