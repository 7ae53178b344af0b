use Rattle.std.proofs.Common.{ℕ, Some, sym, ap, ◌∙◌}
use Rattle.std.specs.Option.{option_map}
use Rattle.envelope.specs.declared.name.Name.{Name}
use Rattle.table.specs.Tables.{TableModel, with_rows}
use Rattle.votes.specs.declared.state.State.{State}
use Rattle.replica.specs.Models.{Book, Config, ReplicaModel}
use Rattle.replica.specs.Steps.{recalled}
use Rattle.replica.specs.Views.{config, view}
use Rattle.replica.proofs.Meetings.{question_keeps, question_state}
use Rattle.replica.proofs.state.Replica.answer_known.Goals as goal

-- a replica with this book, and one with a book of this size
with_book : ReplicaModel → Book → ReplicaModel
with_book m b = record { place = m.place; rows = m.rows; book = b; pending = m.pending }

with_size : Config → ℕ → Config
with_size C n = record { groups = C.groups; group = C.group; replicas = C.replicas; faults = C.faults; names = n }

pub returns : goal.returns
unfolding with_book with_size
returns c =
    let C = config c.args.self.now in
    let m = view c.args.self.now in
    let met = c.meet_in_table.ensures in
    let same = met.after ∙ ap (with_rows c.args.self.now.book) (question_keeps m.book c.args.name.now c.args.delivered c.requires) in
    record {
      reply =
          ap Some c.recall.ensures
          ∙ ap (option_map (recalled C m c.args.name.now))
          (sym c.in_ok-state.was ∙ met.state ∙ question_state _ c.args.delivered c.requires);
      after = record {
        state = ap (λ (b : TableModel Name State). with_book m b.rows) same;
        fixed = ap (λ (b : TableModel Name State). with_size C b.size) same;
      };
    }
