-- THE WHOLE: what the search finds line by line is the smallest line whose removal gives fallback, as it is defined over the list of all
-- lines. Assumes nothing.
use mathlib.Core.Bool.{Bool, true, false, not, ◌&&◌}
use mathlib.Core.List.{List, [], ◌∷◌, ◌++◌, append_assoc}
use mathlib.Core.Path.{◌≡◌, refl, sym, ap, ap₂, ◌∙◌}
use Prim.Native.Nat.{ℕ, zero, suc, ◌+◌, ◌-◌}
use native.Mathlib.Omega.{arith}
use lib.ListN.{length, take, get_or, length-append}
use Rattle.std.specs.Prelude.{Option, Some, None, Ok, Err}
use lib.Seq.{take-append_seam, drop-append-add, get_or-append_seam}
use Rattle.base.proofs.Choosing.{choose_true, choose_false}
use Rattle.console.specs.Lines.{lines_of}
use Rattle.rules.specs.State.{running}
use Rattle.rules.specs.declared.Agent.{Agent}
use Rattle.script_lines.specs.Doing.{script_module, done}
use Rattle.script_lines.specs.Forms.{line_of}
use Rattle.removals.specs.Removals.{after_lines, ends_in_fallback, is_frame, line_at, without, matters, smallest, which_line, is_long, which_of}
use Rattle.removals.specs.Searching.{matters_here, first_from}
use Rattle.removals.specs.declared.searching.NoSearch.TheVariants.{Long, Fallback}
use Rattle.removals.proofs.PlayingLaws.{after_none, after_line, after_append}
use Rattle.removals.proofs.SearchingLaws.{first_none, first_found, first_later}

-- ---- a line among the others
module _ (before : List (List ℕ)) (l : List ℕ) (after : List (List ℕ)) where
  abbrev number : ℕ
  number = length before + 1

  pub line_here : line_at number (before ++ (l ∷ after)) ≡ l
  line_here =
      let n : number - 1 ≡ length before = omega arith in
      ap (λ (i : ℕ). get_or (before ++ (l ∷ after)) i []) n ∙ get_or-append_seam before l after []

  pub others_here : without number (before ++ (l ∷ after)) ≡ before ++ after
  others_here =
      let n : number - 1 ≡ length before = omega arith in
      ap₂ ◌++◌ (ap (λ (i : ℕ). take i (before ++ (l ∷ after))) n ∙ take-append_seam before (l ∷ after)) (drop-append-add before (l ∷ after) 1)

  -- the module before it, and the lines after it, tell whether it matters
  pub matters_here_lem : matters_here (after_lines script_module before) l after ≡ matters (before ++ (l ∷ after)) number
  unfolding matters
  matters_here_lem =
      ap₂ (λ (k : List ℕ) (a : Agent). is_frame (line_of k) && not (running a)) (sym line_here)
      (sym (after_append script_module before after) ∙ ap (after_lines script_module) (sym others_here))

smallest_none : (test : ℕ → Bool) (n : ℕ) → smallest test n zero ≡ None
unfolding smallest
smallest_none test n = refl

module _ (test : ℕ → Bool) (n count : ℕ) where
  smallest_found : test n ≡ true → smallest test n (suc count) ≡ Some n
  unfolding smallest
  smallest_found e = choose_true _ _ e

  smallest_later : test n ≡ false → smallest test n (suc count) ≡ smallest test (n + 1) count
  unfolding smallest
  smallest_later e = choose_false _ _ e

-- ---- the search from any line on
either : {P : Type 0} (b : Bool) → (b ≡ true → P) → (b ≡ false → P) → P
either true f g = f refl
either false f g = g refl

abbrev From : List (List ℕ) → List (List ℕ) → Type 0
From before ls = first_from (length before + 1) (after_lines script_module before) ls ≡ smallest (matters (before ++ ls)) (length before + 1) (length ls)

module _ (before : List (List ℕ)) (l : List ℕ) (ls : List (List ℕ)) where
  abbrev here : Bool
  here = matters_here (after_lines script_module before) l ls

  from_found : here ≡ true → From before (l ∷ ls)
  from_found t = first_found _ _ l ls t ∙ sym (smallest_found (matters (before ++ (l ∷ ls))) _ (length ls) (sym (matters_here_lem before l ls) ∙ t))

  -- the line joins those before
  from_later : here ≡ false → From (before ++ (l ∷ [])) ls → From before (l ∷ ls)
  from_later t r =
      let m : length (before ++ (l ∷ [])) + 1 ≡ length before + 1 + 1 = omega (arith, length-append before (l ∷ [])) in
      let b : after_lines script_module (before ++ (l ∷ [])) ≡ (done (after_lines script_module before) (line_of l)).agent =
      after_append script_module before (l ∷ []) ∙ after_line (after_lines script_module before) l [] ∙ after_none _ in
      first_later _ _ l ls t
      ∙ ap₂ (λ (k : ℕ) (x : Agent). first_from k x ls) (sym m) (sym b)
      ∙ r
      ∙ ap₂ (λ (k : ℕ) (ks : List (List ℕ)). smallest (matters ks) k (length ls)) m (append_assoc before (l ∷ []) ls)
      ∙ sym (smallest_later (matters (before ++ (l ∷ ls))) _ (length ls) (sym (matters_here_lem before l ls) ∙ t))

from : (before ls : List (List ℕ)) → From before ls
from before [] = first_none _ _ ∙ sym (smallest_none _ _)
from before (l ∷ ls) = either (here before l ls) (from_found before l ls) (λ f. from_later before l ls f (from (before ++ (l ∷ [])) ls))

-- THE THEOREM: for any lines
pub lines_which : (ls : List (List ℕ)) → first_from 1 script_module ls ≡ smallest (matters ls) 1 (length ls)
lines_which ls = ap (λ (x : Agent). first_from 1 x ls) (sym (after_none script_module)) ∙ from [] ls

-- ---- the answer, from the bytes of a script
module _ (input : List ℕ) where
  pub which_long : is_long input ≡ true → Err Long ≡ which_of input
  unfolding which_of
  which_long e = sym (choose_true _ _ e)

  -- `m` is the module of a script, `b` the same at its end
  pub end_is : (m b : Agent) (r : Bool) → m ≡ script_module → b ≡ after_lines m (lines_of input) → r ≡ not (running b) → r ≡ ends_in_fallback (lines_of input)
  end_is m b r e f q = q ∙ ap (λ (x : Agent). not (running x)) (f ∙ ap (λ (x : Agent). after_lines x (lines_of input)) e)

  pub which_fallback : is_long input ≡ false → ends_in_fallback (lines_of input) ≡ true → Err Fallback ≡ which_of input
  unfolding which_of which_line
  which_fallback e f = sym (choose_false _ _ e ∙ choose_true _ _ f)

  pub which_found : is_long input ≡ false → ends_in_fallback (lines_of input) ≡ false → (w : Option ℕ) → w ≡ first_from 1 script_module (lines_of input) → Ok w ≡ which_of input
  unfolding which_of which_line
  which_found e f w q = ap Ok (q ∙ lines_which (lines_of input)) ∙ sym (choose_false _ _ e ∙ choose_false _ _ f)
