-- The whole slice after an insertion: the filled rows with the new one, and the free ones behind them.
use Rattle.std.proofs.Common.{◌≡◌, ℕ, ◌+◌, ◌<◌, ◌≤◌, true, cond, List, ◌++◌, length, take, drop, is_ok, is_some, None, Ok, Err, Result, Ordering, sym, refl, ap, true≢false, ◌∙◌, ap₂, arith}
use Rattle.std.specs.List.{insert}
use Rattle.std.proofs.lemmas.List.Edits.{length-insert}
use Rattle.std.proofs.lemmas.List.{length-take-le, take_at}
use Rattle.std.proofs.lemmas.Bool.{lt-ltb}
use Rattle.table.specs.Insertions.{admitted, insert_after, insert_answer}
use Rattle.table.specs.Orders.{Laws}
use Rattle.table.specs.Rows.{insert_sorted, lookup, position, rising}
use Rattle.table.specs.declared.row.Row.{Row}
use Rattle.table.specs.declared.row.Refusal.{Refusal}
use Rattle.table.proofs.Lookups.{found}
use Rattle.table.proofs.Inserted.{insert_is, rising_inserted}

-- the search in the table, which are the first rows, answered that the key goes in at this place
module _ {K V : Type 0} (cmp : K → K → Ordering) (rows table : List (Row K V)) (filled at : ℕ) (x : Row K V)
    (first : table ≡ take filled rows) (found : Err at ≡ position cmp table x.key) (bound : at ≤ length table)
    (free : filled < length rows) where
  place : Err at ≡ position cmp (take filled rows) x.key
  place = found ∙ ap (λ l. position cmp l x.key) first

  size : length (take filled rows) ≡ filled
  size = length-take-le filled rows (omega arith)

  within : at ≤ filled
  within = omega (arith, size, ap length first)

  pub answer_is : Ok at ≡ insert_answer cmp rows filled x.key
  answer_is = ap₂ admitted place (sym (lt-ltb filled (length rows) free))

  module _ (after : List (Row K V)) (put : after ≡ insert (take filled rows) at x ++ drop (filled + 1) rows) where
    sorted : after ≡ insert_sorted cmp x (take filled rows) ++ drop (filled + 1) rows
    sorted = put ∙ ap (λ l. l ++ drop (filled + 1) rows) (insert_is cmp x (take filled rows) at place)

    pub after_is : after ≡ insert_after cmp rows filled x
    after_is =
        sorted
        ∙ ap (λ a. cond (is_ok a) (insert_sorted cmp x (take filled rows) ++ drop (filled + 1) rows) rows) answer_is

    -- one row more is filled
    pub table_is : take (filled + 1) after ≡ insert_sorted cmp x (take filled rows)
    table_is =
        let long : length (insert_sorted cmp x (take filled rows)) ≡ filled + 1 =
        ap length (sym (insert_is cmp x (take filled rows) at place))
        ∙ length-insert (take filled rows) at x (omega (arith, size, within)) ∙ ap (λ n. n + 1) size in
        ap (take (filled + 1)) sorted
        ∙ take_at (insert_sorted cmp x (take filled rows)) (drop (filled + 1) rows) (filled + 1) long

    pub rising_after : Laws cmp → rising cmp (take filled rows) ≡ true → rising cmp (take (filled + 1) after) ≡ true
    rising_after laws up = ap (rising cmp) table_is ∙ rising_inserted cmp laws x (take filled rows) up

-- a new key goes in where a row is free
pub not_refused : {K V : Type 0} (cmp : K → K → Ordering) → Laws cmp → (rows : List (Row K V)) (filled : ℕ) (k : K)
    → filled < length rows → rising cmp (take filled rows) ≡ true → lookup cmp (take filled rows) k ≡ None
    → (fault : Refusal) → Err fault ≡ insert_answer cmp rows filled k → ⊥
not_refused cmp laws rows filled k free up new fault e = at (position cmp (take filled rows) k) refl where
  at : (p : Result ℕ ℕ) → position cmp (take filled rows) k ≡ p → ⊥
  at (Ok i) is =
      true≢false (ap is_ok (sym is) ∙ found cmp laws (take filled rows) k up ∙ ap is_some new)
  at (Err i) is =
      let go : Err fault ≡ Ok i = e ∙ ap₂ admitted is (lt-ltb filled (length rows) free) in
      cc
