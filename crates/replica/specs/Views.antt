-- What the code's replica holds, and what its replies say.
use Rattle.std.specs.Prelude.{◌≡◌, ◌<◌, length, None, Ok, Err, Option, Result}
use Rattle.std.specs.Option.{option_map}
use Rattle.lists.specs.Lists.{listed}
use Rattle.envelope.specs.declared.name.Name.{Name}
use Rattle.table.specs.Orders.{by_bytes}
use Rattle.table.specs.Rows.{lookup}
use Rattle.votes.specs.declared.fault.DeliveryFault.{DeliveryFault}
use Rattle.votes.specs.declared.ground.Ground.{Ground}
use Rattle.replica.specs.Models.{Config, ReplicaModel, ReplyModel}
use Rattle.replica.specs.Steps.{Outcome}
use Rattle.replica.specs.declared.reply.Reply.{Reply}
use Rattle.replica.specs.declared.state.Replica.{Replica}

-- what a replica holds
abbrev pub view : Replica → ReplicaModel
view r =
    record {
      place = r.place;
      rows = r.rows.rows;
      book = r.book.rows;
      pending = r.pending;
    }

-- what is fixed at it
abbrev pub config : Replica → Config
config r =
    record {
      groups = r.partition.groups;
      group = r.partition.group;
      replicas = r.tolerance.replicas;
      faults = r.tolerance.faults;
      names = r.book.size;
    }

-- a replica holds this then, and what is fixed at it has stayed
pub record Becomes (old new : Replica) (m : ReplicaModel) : Type 0 where
  pub state : view new ≡ m
  pub fixed : config new ≡ config old

-- a new name, for which the book has space
pub record HasSpace (C : Config) (m : ReplicaModel) (x : Name) : Type 0 where
  pub free : length m.book < C.names
  pub new : lookup by_bytes m.book x ≡ None

-- what a reply says
abbrev pub reply_model : Reply → ReplyModel
reply_model r =
    let ground : Ground = r.ground in
    record {
      name = r.name;
      vote = r.vote;
      state = r.state;
      ground = ground;
      reads = listed r.reads;
    }

-- what comes of a delivery
abbrev pub outcome : Result (Option Reply) DeliveryFault → Outcome
outcome (Ok reply) = Ok (option_map reply_model reply)
outcome (Err fault) = Err fault
