-- What a buffer holds once bytes have been put into a part of it.
use Rattle.std.specs.Prelude.{ℕ, ◌+◌, List, ◌++◌, length, take, drop}

-- xs with ys in the place of what stands there from position p on
abbrev pub overlaid : List ℕ → ℕ → List ℕ → List ℕ
overlaid xs p ys = take p xs ++ ys ++ drop (p + length ys) xs
