-- Laws of the module after lines: line by line, over two lists, and the loop over lines. Assumes nothing.
use mathlib.Core.List.{List, [], ◌∷◌, ◌++◌}
use mathlib.Core.Path.{◌≡◌, refl, sym, ap, ◌∙◌}
use Prim.Native.Nat.{ℕ}
use Rattle.rules.specs.declared.Agent.{Agent}
use Rattle.script_lines.specs.Doing.{done}
use Rattle.script_lines.specs.Forms.{line_of}
use Rattle.removals.specs.Removals.{after_lines}

pub after_none : (a : Agent) → after_lines a [] ≡ a
unfolding after_lines
after_none a = refl

pub after_line : (a : Agent) (l : List ℕ) (ls : List (List ℕ)) → after_lines a (l ∷ ls) ≡ after_lines (done a (line_of l)).agent ls
unfolding after_lines
after_line a l ls = refl

pub after_append : (a : Agent) (ks ls : List (List ℕ)) → after_lines a (ks ++ ls) ≡ after_lines (after_lines a ks) ls
unfolding after_lines
after_append a [] ls = refl
after_append a (k ∷ ks) ls = after_append (done a (line_of k)).agent ks ls

-- ---- the loop over lines: those that are left, from here, give the whole
module _ (ls : List (List ℕ)) (a whole : Agent) (inv : after_lines a ls ≡ whole) where
  pub play_turn : (b : Agent) (l : List ℕ) (rest : List (List ℕ)) → ls ≡ l ∷ rest → b ≡ (done a (line_of l)).agent → after_lines b rest ≡ whole
  play_turn b l rest e q = ap (λ (x : Agent). after_lines x rest) q ∙ sym (after_line a l rest) ∙ ap (after_lines a) (sym e) ∙ inv

  pub play_end : ls ≡ [] → a ≡ whole
  play_end e = sym (after_none a) ∙ ap (after_lines a) (sym e) ∙ inv
