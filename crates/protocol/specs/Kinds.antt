-- The types that are left open, and the numbers for groups, replicas and values.
use Rattle.std.specs.Prelude.{ℕ}

-- names of transactions, keys of rows, messages on the lists of groups, and marks that replicas put under their votes
pub record Kinds : Type 1 where
  pub Name : Type 0
  pub Key : Type 0
  pub Message : Type 0
  pub Mark : Type 0

-- the four types as one
abbrev pub kinds : Type 0 → Type 0 → Type 0 → Type 0 → Kinds
kinds names keys messages marks = record { Name = names; Key = keys; Message = messages; Mark = marks }

-- groups are numbered, and so are the replicas of each
abbrev pub Group : Type 0
Group = ℕ

abbrev pub Replica : Type 0
Replica = ℕ

-- what a row holds
abbrev pub Value : Type 0
Value = ℕ
