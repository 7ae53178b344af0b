-- A small tally over small messages: it counts answers one at a time, until it is closed. It keeps the laws.
use Rattle.std.specs.Prelude.{ℕ, Bool, true, false, cond, ◌&&◌, ◌||◌, List, [], ◌∷◌, map, length, ◌==◌, nat_lt}
use Rattle.std.proofs.Math.Option.{Option, none, some}
use Rattle.protocol.specs.Kinds.{Group}
use Rattle.protocol.specs.Lists.{only}
use Rattle.protocol.specs.Transactions.{Vote, commit, abort}
use Rattle.protocol.specs.Certificates.{Answer}
use Rattle.protocol.specs.Tallies.{Tally, TallyLaws}
use Rattle.protocol.specs.Tests.{any, all, has}
use Rattle.protocol.specs.SmallMessages.{Message, certify, small, answer_of, Config, setting}
use Rattle.protocol.specs.SmallStep.{earlier}

-- the votes are the same
abbrev pub is_vote : Vote → Vote → Bool
is_vote commit commit = true
is_vote commit abort = false
is_vote abort commit = false
is_vote abort abort = true

-- an answer of g with the vote v
abbrev pub gives : Vote → Group → Answer small → Bool
gives v g a = is_vote v a.vote && g == a.entry.group

-- the counted answers of that kind
abbrev pub votes : Vote → Group → List (Answer small) → List (Answer small)
votes v g cs = only (gives v g) cs

-- they are more than may be faulty
abbrev pub reached : Config → List (Answer small) → Vote → Group → Bool
reached C cs v g = nat_lt C.faults (length (votes v g cs))

-- closed on abort, once one of its groups has so many votes for it, or on commit, once each has
abbrev pub outcome : Config → List Group → List (Answer small) → Option Vote
outcome C gs cs =
    cond (any (reached C cs abort) gs) (some abort) (cond (all (reached C cs commit) gs) (some commit) none)

-- it is closed
abbrev pub is_closed : Option Vote → Bool
is_closed none = false
is_closed (some v) = true

-- both are of one replica
abbrev pub same_replica : Answer small → Answer small → Bool
same_replica a b = a.entry.group == b.entry.group && a.entry.replica == b.entry.replica

-- an answer comes too late: the tally is closed, the replica is counted, or its group has votes enough
abbrev pub late : Config → List Group → List (Answer small) → Answer small → Bool
late C gs cs a =
    is_closed (outcome C gs cs) || any (same_replica a) cs ||
    (reached C cs commit a.entry.group || reached C cs abort a.entry.group)

-- it is for this tally
abbrev pub addressed : Config → ℕ → List Group → Answer small → Bool
addressed C x gs a =
    (a.name == x) && has gs a.entry.group && nat_lt a.entry.replica C.replicas

-- the number that an answer meets
abbrev pub answer_number : Config → ℕ → List Group → List (Answer small) → Answer small → ℕ
answer_number C x gs cs a =
    cond (addressed C x gs a) (cond (C.genuine a.name a.vote a.entry) (cond (late C gs cs a) 17 0) 15) 14

-- counted answers stand by group, then by replica
abbrev pub insert : Answer small → List (Answer small) → List (Answer small)
insert a [] = a ∷ []
insert a (b ∷ bs) = cond (earlier a.entry b.entry) (a ∷ b ∷ bs) (b ∷ insert a bs)

-- the number that a message meets, and what is counted after it; what is no answer is refused
abbrev pub number : Config → ℕ → List Group → List (Answer small) → Option (Answer small) → ℕ
number C x gs cs none = 10
number C x gs cs (some a) = answer_number C x gs cs a

abbrev pub counted : Config → ℕ → List Group → List (Answer small) → Option (Answer small) → List (Answer small)
counted C x gs cs none = cs
counted C x gs cs (some a) = cond (answer_number C x gs cs a == 0) (insert a cs) cs

-- messages one after the other
abbrev pub fed : Config → ℕ → List Group → List (Answer small) → List Message → List (Answer small)
fed C x gs cs [] = cs
fed C x gs cs (m ∷ l) = fed C x gs (counted C x gs cs (answer_of m)) l

-- the first group that passes a test
abbrev pub first : (ℕ → Bool) → List ℕ → ℕ
first f [] = 0
first f (x ∷ xs) = cond (f x) x (first f xs)

-- the certificate has all commit votes, or the abort votes of the first group that has enough
abbrev pub chosen : Config → List Group → List (Answer small) → Vote → List (Answer small)
chosen C gs cs commit = only (λ a. is_vote commit a.vote) cs
chosen C gs cs abort = votes abort (first (reached C cs abort) gs) cs

-- what it writes, if it is closed
abbrev pub written : Config → ℕ → List Group → List (Answer small) → Option Vote → Option Message
written C x gs cs none = none
written C x gs cs (some v) = some (certify x v (map (λ a. a.entry) (chosen C gs cs v)))

-- the tally, from no counted answer on
abbrev pub tally : Config → Tally small
tally C =
    record {
      writes = λ x gs l. let cs = fed C x gs [] l in written C x gs cs (outcome C gs cs);
      number = λ x gs l m. number C x gs (fed C x gs [] l) (answer_of m);
    }

-- It keeps the laws.
abbrev pub SmallTallyKeepsLaws : Type 0
SmallTallyKeepsLaws = (C : Config) → TallyLaws (setting C) (tally C)
