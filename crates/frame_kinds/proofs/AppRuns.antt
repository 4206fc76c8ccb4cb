-- Application data put down run by run: head, data and tail, then the CRC. Assumes nothing.
use mathlib.Core.Path.{◌≡◌, refl, sym, ap, ap₂, ◌∙◌}
use mathlib.Core.Bool.{Bool, true, false}
use mathlib.Core.List.{List, ◌++◌}
use Prim.Native.Nat.{ℕ, ◌+◌, ◌≤◌}
use native.Mathlib.Omega.{arith}
use native.Mathlib.Nat.{zero-add}
use lib.ListN.{length, take, drop, length-append}
use lib.Seq.{sets, take_at}
use Rattle.base.specs.Bytes.{bytes_of}
use Rattle.base.proofs.Choosing.{choose_true, choose_false}
use Rattle.base.proofs.Numbers.{length_bytes_of}
use Rattle.base.proofs.Sets.{sets_append, sets_front}
use Rattle.crc.specs.Crc.{crc_of, Safety}
use Rattle.fields.specs.Fields.{laid}
use Rattle.frame_kinds.specs.Kinds.{head_of, tail_of, is_safe, sealed, app_of}
use Rattle.frame_kinds.specs.declared.kinds.Frame.{Frame}
use Rattle.frame_kinds.proofs.Parts.{plain_app}

-- ---- lists alone
three_length : (h x t : List ℕ) → length (h ++ (x ++ t)) ≡ length h + length x + length t
three_length h x t = omega (arith, length-append h (x ++ t), length-append x t)

-- three runs, each where the one before it ends
three_runs : (d h x t : List ℕ) → sets (sets (sets d 0 h) (length h) x) (length h + length x) t ≡ sets d 0 (h ++ (x ++ t))
three_runs d h x t =
    sym (sets_append (sets d 0 h) (length h) x t)
    ∙ ap (λ (n : ℕ). sets (sets d 0 h) n (x ++ t)) (sym (zero-add (length h)))
    ∙ sym (sets_append d 0 h (x ++ t))

-- a run from the start on is read back
pub stored_back : (d l xs : List ℕ) (n : ℕ) → n ≡ length xs → l ≡ sets d 0 xs → length xs ≤ length d → take n l ≡ xs
stored_back d l xs n p q h =
    ap₂ take p q ∙ ap (take (length xs)) (sets_front d xs h) ∙ take_at xs (drop (length xs) d) (length xs) refl

-- ---- the length of application data
module _ (f : Frame) (xs : List ℕ) where
  abbrev plain : List ℕ
  plain = plain_app f xs

  seal : List ℕ
  seal = bytes_of 2 (crc_of Safety plain)

  app_safe : is_safe f ≡ true → app_of f xs ≡ plain ++ seal
  unfolding app_of sealed seal
  app_safe e = choose_true (plain ++ seal) plain e

  pub app_plain : is_safe f ≡ false → app_of f xs ≡ plain
  unfolding app_of
  app_plain e = choose_false (sealed plain) plain e

  pub safe_length : is_safe f ≡ true → length (app_of f xs) ≡ length plain + 2
  unfolding seal
  safe_length e = ap length (app_safe e) ∙ length-append plain seal ∙ ap (λ (n : ℕ). length plain + n) (length_bytes_of 2 (crc_of Safety plain))

  -- what stands before the CRC is no longer than the whole
  plain_most : length plain ≤ length (app_of f xs)
  plain_most = by (is_safe f) refl
    where
      by : (t : Bool) → is_safe f ≡ t → length plain ≤ length (app_of f xs)
      by true e = omega (arith, safe_length e)
      by false e = omega (arith, ap length (app_plain e))

  -- ---- the runs; `hs` and `ts` are the fields as the code holds them
  module _ (hs ts : List (ℕ × ℕ)) (p : hs ≡ head_of f) (q : ts ≡ tail_of f) where
    plain_is : plain ≡ laid hs ++ (xs ++ laid ts)
    plain_is = ap₂ (λ (a b : List (ℕ × ℕ)). laid a ++ (xs ++ laid b)) (sym p) (sym q)

    -- there is room for them where there is room for the whole
    pub runs_fit : length (laid hs) + length xs + length (laid ts) ≤ length (app_of f xs)
    runs_fit = omega (arith, plain_most, ap length plain_is, three_length (laid hs) xs (laid ts))

    pub runs_end : (a b n : ℕ) → a ≡ 0 + length (laid hs) → b ≡ a + length xs → n ≡ b + length (laid ts) → n ≡ length plain
    runs_end a b n i j k = omega (arith, ap length plain_is, three_length (laid hs) xs (laid ts))

    pub runs_laid : (a b : ℕ) (d l m o : List ℕ) → a ≡ 0 + length (laid hs) → b ≡ a + length xs
        → l ≡ sets d 0 (laid hs) → m ≡ sets l a xs → o ≡ sets m b (laid ts) → o ≡ sets d 0 plain
    runs_laid a b d l m o i j u v w =
        let e : a ≡ length (laid hs) = omega arith in
        w ∙ rw (v, u, j, e) (three_runs d (laid hs) xs (laid ts)) ∙ ap (sets d 0) (sym plain_is)

  -- ---- the CRC of what was put down, behind it
  pub seal_laid : (n k : ℕ) (d l m : List ℕ) → is_safe f ≡ true → length (app_of f xs) ≤ length d → n ≡ length plain
      → l ≡ sets d 0 plain → k ≡ crc_of Safety (take n l) → m ≡ sets l n (bytes_of 2 k) → m ≡ sets d 0 (app_of f xs)
  unfolding seal
  seal_laid n k d l m e h i u v w =
      let c : k ≡ crc_of Safety plain = v ∙ ap (crc_of Safety) (stored_back d l plain n i u (omega (arith, plain_most))) in
      w ∙ rw (u, c, i ∙ sym (zero-add (length plain))) (sym (sets_append d 0 plain seal)) ∙ ap (sets d 0) (sym (app_safe e))
