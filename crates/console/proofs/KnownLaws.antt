-- Laws of known bytes that a writer took and a reader lost: none, and more of them. Assumes nothing.
use mathlib.Core.Path.{refl, sym, ap, ◌∙◌}
use mathlib.Core.List.{List, [], ◌++◌, append_assoc, append-nil}
use Prim.Native.Nat.{ℕ}
use Rattle.std.specs.Prelude.{None, Some}
use Rattle.std.specs.declared.option.Option.{Option}
use Rattle.std.specs.Io.KnownBytes.{Keeps, Appends, Consumes}

-- ---- a writer
pub takes_none : (a : Option (List ℕ)) → Appends a a []
takes_none None = tt
takes_none (Some xs) = sym (append-nil xs)

pub takes_kept : (a b : Option (List ℕ)) → Keeps a b → Appends a b []
takes_kept None b k = tt
takes_kept (Some xs) None k = k
takes_kept (Some xs) (Some ys) k = k ∙ sym (append-nil xs)

pub takes_more : (a b c : Option (List ℕ)) (s t : List ℕ) → Appends a b s → Appends b c t → Appends a c (s ++ t)
takes_more None b c s t p q = tt
takes_more (Some xs) None c s t p q = absurd p
takes_more (Some xs) (Some ys) None s t p q = absurd q
takes_more (Some xs) (Some ys) (Some zs) s t p q = q ∙ ap (λ (u : List ℕ). u ++ t) p ∙ append_assoc xs s t

-- ---- a reader
pub keeps_same : (a : Option (List ℕ)) → Keeps a a
keeps_same None = tt
keeps_same (Some xs) = refl

pub loses_none : (a : Option (List ℕ)) → Consumes a a []
loses_none None = tt
loses_none (Some xs) = refl

pub loses_more : (a b c : Option (List ℕ)) (s t : List ℕ) → Consumes a b s → Consumes b c t → Consumes a c (s ++ t)
loses_more None b c s t p q = tt
loses_more (Some xs) None c s t p q = absurd p
loses_more (Some xs) (Some ys) None s t p q = absurd q
loses_more (Some xs) (Some ys) (Some zs) s t p q = p ∙ ap (λ (u : List ℕ). s ++ u) q ∙ sym (append_assoc s t zs)

pub loses_kept : (a b c : Option (List ℕ)) (s : List ℕ) → Consumes a b s → Keeps b c → Consumes a c s
loses_kept None b c s p q = tt
loses_kept (Some xs) None c s p q = absurd p
loses_kept (Some xs) (Some ys) None s p q = absurd q
loses_kept (Some xs) (Some ys) (Some zs) s p q = p ∙ ap (λ (u : List ℕ). s ++ u) (sym q)
