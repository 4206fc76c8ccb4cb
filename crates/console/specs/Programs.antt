-- A program that answers lines, and the transcript of an input: what the program says from the first text to the last. Assumes nothing.
use Rattle.std.specs.Prelude.{◌≡◌, List, [], ◌∷◌, ◌++◌, ℕ}
use Rattle.console.specs.Lines.{lines_of}

-- what it holds and says before the first line, what a line makes of what it holds, what it says to a line, and what it
-- says at the end
pub record Program (S : Type 0) : Type 0 where
  pub start : S
  pub first : List ℕ
  pub next : S → List ℕ → S
  pub says : S → List ℕ → List ℕ
  pub ends : S → List ℕ

abbrev pub next_all : {S : Type 0} → Program S → S → List (List ℕ) → S
next_all P s [] = s
next_all P s (l ∷ ls) = next_all P (P.next s l) ls

abbrev pub says_all : {S : Type 0} → Program S → S → List (List ℕ) → List ℕ
says_all P s [] = []
says_all P s (l ∷ ls) = P.says s l ++ says_all P (P.next s l) ls

-- what is said before the end
abbrev pub answers : {S : Type 0} → Program S → List ℕ → List ℕ
answers P input = P.first ++ says_all P P.start (lines_of input)

-- THE TRANSCRIPT
abbrev pub transcript : {S : Type 0} → Program S → List ℕ → List ℕ
transcript P input = answers P input ++ P.ends (next_all P P.start (lines_of input))

-- what a program holds once it says no more
pub record Quiet {S : Type 0} (P : Program S) (s : S) : Type 0 where
  pub stays : (chars : List ℕ) → P.next s chars ≡ s
  pub silent : (chars : List ℕ) → P.says s chars ≡ []
