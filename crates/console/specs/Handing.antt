-- Text that a writer takes, whole or a beginning of it, and the room that is left. Assumes nothing.
use Rattle.std.specs.Prelude.{◌≡◌, Bool, true, List, [], ◌++◌, ℕ, ◌+◌, ◌≤◌, length}
use Rattle.std.specs.Io.KnownBytes.{Appends, Consumes, IsAtEnd}
use Rattle.std.specs.declared.option.Option.{Option}
use Rattle.text.specs.Texts.{with_piece}

-- a text put on a page: whole, or not at all if it does not fit
abbrev pub with_text : List ℕ → List ℕ → List ℕ
with_text page text = with_piece 16384 page text

-- the longest text for one line fits
abbrev pub HasRoom : List ℕ → Type 0
HasRoom page = length page + 2048 ≤ 16384

-- the writer took the front of a page, and the rest is still there
pub record HandsOn (old new : Option (List ℕ)) (page page' : List ℕ) : Type 0 where
  pub front : List ℕ
  pub all : front ++ page' ≡ page
  pub took : Appends old new front

-- a beginning of a text
pub record AppendsFront (old new : Option (List ℕ)) (text : List ℕ) : Type 0 where
  pub front : List ℕ
  pub rest : List ℕ
  pub all : front ++ rest ≡ text
  pub took : Appends old new front

-- ---- what is printed for an input: the bytes that the reader lost, and whatever may follow them; nothing does, if it came to its end
-- THE PROMISE: the writer took all of it
pub record Printed (text : List ℕ → List ℕ) (known left old new : Option (List ℕ)) : Type 0 where
  pub read : List ℕ
  pub ended : Bool
  pub lost : Consumes known left read
  pub last : ended ≡ true → IsAtEnd left
  pub took : (rest : List ℕ) → (ended ≡ true → rest ≡ []) → Appends old new (text (read ++ rest))

-- WHAT AN ERROR LEAVES: the writer took a beginning of it, and no other byte
pub record PrintedFront (text : List ℕ → List ℕ) (known left old new : Option (List ℕ)) : Type 0 where
  pub read : List ℕ
  pub ended : Bool
  pub lost : Consumes known left read
  pub last : ended ≡ true → IsAtEnd left
  pub took : (rest : List ℕ) → (ended ≡ true → rest ≡ []) → AppendsFront old new (text (read ++ rest))
