use Rattle.std.proofs.Common.{◌≡◌, true, cond, ◌&&◌, if◌then◌else◌, [], ◌∷◌, ◌++◌, get_or, Some, arith, ap, ◌∙◌, sym}
use Rattle.std.proofs.lemmas.Grind.{common_steps}
use Rattle.std.proofs.lemmas.Option.{gets}
use Rattle.std.specs.List.{slice_get}
use Rattle.std.specs.Option.{option_map}
use Rattle.std.specs.Result.{is_ok}
use Rattle.sequencer.specs.Records.{with_record}
use Rattle.sequencer.specs.Tapes.{tape_buffer}
use Rattle.sequencer.specs.Tracks.{list_on}
use Rattle.sequencer.proofs.Racks.{at_set, mapped_same, none_more, restored, track_list}
use Rattle.sequencer.proofs.tracks.TracksSequencer.post.Goals as goal

pub returns-clause-appends : goal.returns-clause-appends
returns-clause-appends c =
    let ts = c.args.self.now.tracks.items in
    let t = c.in_ok-ok_or.field-0.now in
    let u = c.post.new.self in
    let m = c.args.message.now in
    let here : slice_get ts c.args.group ≡ Some t = grind (arith, common_steps, gets) in
    at_set (λ b n o. list_on n ≡ list_on o ++ (if is_ok c.post.result && b then m ∷ [] else [])) ts c.args.group t u here
    (sym (track_list u) ∙ c.post.ensures.appends 0 ∙ ap (λ ms. ms ++ (if is_ok c.post.result && true then m ∷ [] else [])) (track_list t))
    (λ o. none_more (is_ok c.post.result) (list_on o) (m ∷ []))

pub returns-clause-same : goal.returns-clause-same
returns-clause-same c = λ no.
    let u = c.post.new.self in
    let same = c.post.ensures.same no in
    let was : u ≡ get_or c.args.self.now.tracks.items c.args.group u = grind (arith, common_steps, same) in
    λ i. record { tracks = restored c.args.self.now.tracks c.args.group u was i }

pub returns-clause-left : goal.returns-clause-left
returns-clause-left c = λ yes.
    let ts = c.args.self.now.tracks.items in
    let t = c.in_ok-ok_or.field-0.now in
    let here : slice_get ts c.args.group ≡ Some t = grind (arith, common_steps, gets) in
    let grown = with_record 0 (record { group = 0; message = c.args.message.now }) in
    at_set (λ b n o. option_map tape_buffer n ≡ option_map (λ x. cond b (grown x) x) (option_map tape_buffer o)) ts c.args.group t c.post.new.self here
    (ap Some (c.post.ensures.left yes).0) (λ o. mapped_same (option_map tape_buffer o))
