-- Where there is no objection to a new transaction, a place is free.
use Rattle.std.proofs.Common.{◌≡◌, ◌<◌, Bool, true, false, cond, List, length, Some, None, Option, refl, leb-false}
use Rattle.bodies.specs.declared.operation.Operation.{Operation}
use Rattle.votes.specs.declared.ground.Ground.{Ground}
use Rattle.votes.specs.declared.ground.Ground.TheVariants as ground
use Rattle.replica.specs.Models.{Config, ReplicaModel, Transaction, most_pending}
use Rattle.replica.specs.Steps.{blocked_or, late_objection, objection}

cond_none : {X : Type 0} (b : Bool) (x : X) (o : Option X) → cond b (Some x) o ≡ None → (b ≡ false) × (o ≡ None)
cond_none true x o e = cc
cond_none false x o e = (refl, e)

unblocked : (C : Config) (o : Option Transaction) (late : Option Ground) → blocked_or C o late ≡ None → late ≡ None
unblocked C None late e = e
unblocked C (Some t) late e = cc

pub place_free : (C : Config) (m : ReplicaModel) (os : List Operation) → objection C m os ≡ None → length m.pending < most_pending
place_free C m os e =
    let late : late_objection C m os ≡ None = unblocked C _ (late_objection C m os) (cond_none _ ground.NoRow _ e).1 in
    leb-false most_pending (length m.pending) (cond_none _ ground.NoPlace _ late).0
