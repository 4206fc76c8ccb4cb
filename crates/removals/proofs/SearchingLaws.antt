-- Laws of the search: which lines are frames, and its loop over lines. Assumes nothing.
use mathlib.Core.Bool.{Bool, true, false, not}
use mathlib.Core.List.{List, [], ◌∷◌}
use mathlib.Core.Path.{◌≡◌, refl, sym, ap, ◌∙◌}
use Rattle.std.specs.Prelude.{Option, Some, None as Nothing}
use Prim.Native.Nat.{ℕ, ◌+◌}
use Rattle.std.specs.Prelude.{Option, Some, None}
use Rattle.base.proofs.Choosing.{choose_true, choose_false}
use Rattle.rules.specs.State.{running}
use Rattle.rules.specs.declared.Agent.{Agent}
use Rattle.script_lines.specs.Doing.{done}
use Rattle.script_lines.specs.Forms.{line_of, step_in}
use Rattle.script_lines.specs.declared.forms.Form.{Form}
use Rattle.script_lines.specs.declared.forms.Form.TheVariants.{Ticks, Frame, Inputs}
use Rattle.removals.specs.Removals.{after_lines, is_frame}
use Rattle.removals.specs.Searching.{matters_here, first_from}

-- ---- a line whose form was read, and whether it is a frame
no_frame : (f : Option Form) (bytes : List ℕ) → ((port n : ℕ) → f ≡ Some (Frame port n) → ⊥) → false ≡ is_frame (step_in f bytes)
no_frame (Some (Ticks n)) bytes k = refl
no_frame (Some (Frame port n)) bytes k = absurd (k port n refl)
no_frame (Some Inputs) bytes k = refl
no_frame Nothing bytes k = refl

module _ (f : Option Form) (bytes line : List ℕ) (q : step_in f bytes ≡ line_of line) where
  pub frame_read : (port n : ℕ) → f ≡ Some (Frame port n) → true ≡ is_frame (line_of line)
  frame_read port n e = ap (λ (g : Option Form). is_frame (step_in g bytes)) (sym e) ∙ ap is_frame q

  pub other_read : ((port n : ℕ) → f ≡ Some (Frame port n) → ⊥) → false ≡ is_frame (line_of line)
  other_read k = no_frame f bytes k ∙ ap is_frame q

-- ---- whether a line matters: `b` is whether it is a frame, `x` the module after the lines that follow
module _ (a : Agent) (l : List ℕ) (ls : List (List ℕ)) (b : Bool) (e : b ≡ is_frame (line_of l)) where
  pub here_other : b ≡ false → false ≡ matters_here a l ls
  here_other f = rw (← e, f)

  pub here_frame : b ≡ true → (x : Agent) (r : Bool) → x ≡ after_lines a ls → r ≡ not (running x) → r ≡ matters_here a l ls
  here_frame t x r p q = rw (← e, t, ← p) q

-- ---- what is found among lines
pub first_none : (n : ℕ) (a : Agent) → first_from n a [] ≡ None
unfolding first_from
first_none n a = refl

module _ (n : ℕ) (a : Agent) (l : List ℕ) (ls : List (List ℕ)) where
  pub first_found : matters_here a l ls ≡ true → first_from n a (l ∷ ls) ≡ Some n
  unfolding first_from
  first_found e = choose_true _ _ e

  pub first_later : matters_here a l ls ≡ false → first_from n a (l ∷ ls) ≡ first_from (n + 1) (done a (line_of l)).agent ls
  unfolding first_from
  first_later e = choose_false _ _ e

-- ---- the loop over lines: what is found among those that are left is what is found
module _ (ls : List (List ℕ)) (a : Agent) (n : ℕ) (whole : Option ℕ) (inv : first_from n a ls ≡ whole) where
  module _ (l : List ℕ) (rest : List (List ℕ)) (e : ls ≡ l ∷ rest) (m : Bool) (q : m ≡ matters_here a l rest) where
    pub search_found : m ≡ true → Some n ≡ whole
    search_found t = sym (first_found n a l rest (sym q ∙ t)) ∙ ap (first_from n a) (sym e) ∙ inv

    pub search_turn : (b : Agent) → m ≡ false → b ≡ (done a (line_of l)).agent → first_from (n + 1) b rest ≡ whole
    search_turn b f p =
        ap (λ (x : Agent). first_from (n + 1) x rest) p ∙ sym (first_later n a l rest (sym q ∙ f)) ∙ ap (first_from n a) (sym e) ∙ inv

  pub search_end : ls ≡ [] → None ≡ whole
  search_end e = sym (first_none n a) ∙ ap (first_from n a) (sym e) ∙ inv
