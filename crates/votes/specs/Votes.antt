-- Votes, as bytes and in words.
use Rattle.std.specs.Prelude.{ℕ, List, [], ◌∷◌, Option, codes}
use Rattle.votes.specs.Bytes.{with_byte}
use Rattle.votes.specs.declared.vote.Vote.{Vote}
use Rattle.votes.specs.declared.vote.Vote.TheVariants.{Commit, Abort}

-- the byte of a vote
abbrev pub vote_byte : Vote → ℕ
vote_byte Commit = 1
vote_byte Abort = 2

-- the vote of a byte
abbrev pub vote_of : ℕ → Option Vote
vote_of = with_byte vote_byte (Commit ∷ Abort ∷ [])

-- a vote in words
abbrev pub vote_words : Vote → List ℕ
vote_words Commit = codes "commit"
vote_words Abort = codes "abort"
