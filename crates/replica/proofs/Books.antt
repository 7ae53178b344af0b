-- The first entries of a book: what they become when a name meets a message, and that a new name is entered.
use Rattle.std.proofs.Common.{◌≡◌, ℕ, ◌<◌, ◌≤◌, true, length, get_or, take, set, Some, None, Ok, Err, Option, sym, ap, ◌∙◌, arith}
use Rattle.std.specs.Option.{option_map}
use Rattle.std.proofs.lemmas.List.{get_or-take, length-take-le}
use Rattle.envelope.specs.declared.name.Name.{Name}
use Rattle.table.specs.KeyOrders.{names}
use Rattle.table.specs.Orders.{by_bytes}
use Rattle.table.specs.Rows.{changed, lookup, position, rising, valued}
use Rattle.table.specs.declared.row.Row.{Row}
use Rattle.table.proofs.Lookups.{lookup_absent, lookup_present}
use Rattle.table.proofs.Valued.{rising_valued, take_valued, valued_changed, valued_read}
use Rattle.votes.specs.declared.state.State.{State}
use Rattle.replica.specs.Meetings.{met_by, met_named}
use Rattle.replica.specs.Models.{Book}
use Rattle.replica.specs.Steps.{state_after}
use Rattle.replica.specs.declared.book.Delivered.{Delivered}

module _ (rs : Book) (n : ℕ) (x : Name) (d : Delivered) (few : n ≤ length rs) (up : rising by_bytes (take n rs) ≡ true) where
  -- what is answered, and the book after it
  pub record Met (r : Option State) (after : Book) : Type 0 where
    pub state : r ≡ option_map (λ s. state_after s d) (lookup by_bytes (take n rs) x)
    pub after_is : take n after ≡ met_named (take n rs) x d
    pub rises : rising by_bytes (take n after) ≡ true

  -- the name has this entry, and its state becomes s
  pub found_met : (at : ℕ) (row : Row Name State) (s : State) → Ok at ≡ position by_bytes (take n rs) x
      → at < length (take n rs) → row ≡ get_or rs at row → s ≡ state_after row.value d
      → Met (Some s) (set rs at (record { key = row.key; value = s }))
  found_met at row s place low is state =
      let front : at < n = omega (arith, length-take-le n rs few) in
      let held : Some row.value ≡ lookup by_bytes (take n rs) x =
      ap (λ (r : Row Name State). Some r.value) (is ∙ sym (get_or-take n rs at row front))
      ∙ lookup_present by_bytes (take n rs) x at row place in
      let new : take n (set rs at (record { key = row.key; value = s })) ≡ valued (take n rs) at s =
      ap (take n) (valued_read rs at row s (omega arith) is) ∙ take_valued n rs at s in
      record {
        state = ap Some state ∙ ap (option_map (λ s. state_after s d)) held;
        after_is = new ∙ valued_changed by_bytes (take n rs) x at s place
            ∙ ap (changed by_bytes (take n rs) x) state ∙ ap (met_by (take n rs) x d) held;
        rises = ap (rising by_bytes) new ∙ rising_valued by_bytes (take n rs) at s ∙ up;
      }

  -- the name has none
  pub missed_met : (i : ℕ) → Err i ≡ position by_bytes (take n rs) x → Met None rs
  missed_met i place =
      let absent = lookup_absent by_bytes names (take n rs) x i up place in
      record {
        state = ap (option_map (λ s. state_after s d)) absent;
        after_is = ap (met_by (take n rs) x d) absent;
        rises = up;
      }
