-- THE WHOLE: wherever the input is cut into blocks, and wherever the text is handed on, what was written and what is still said is
-- what is said to the lines of the input. Assumes nothing.
use mathlib.Core.Path.{◌≡◌, refl, sym, ap, ap₂, ◌∙◌}
use mathlib.Core.Bool.{Bool, true, false}
use mathlib.Core.List.{List, [], ◌∷◌, ◌++◌, append_assoc, append-nil}
use Prim.Native.Nat.{ℕ}
use native.Mathlib.Omega.{arith}
use borrow.Author.Tests.{eqb-true, eqb-false}
use lib.Dec.{eqb}
use lib.ListN.{length}
use Rattle.std.specs.declared.option.Option.{Option}
use Rattle.std.specs.Io.KnownBytes.{Keeps, Appends, Consumes, IsAtEnd}
use Rattle.base.proofs.Choosing.{never}
use Rattle.text.specs.Lines.{before_end, has_end, after_end}
use Rattle.text.proofs.LineLaws.{ends_so, goes_on_so}
use Rattle.console.specs.Lines.{lines_of, Free}
use Rattle.console.proofs.KnownLaws.{takes_none, takes_more, loses_none, loses_more, loses_kept}
use Rattle.console.proofs.LinesLaws.{lines_line, lines_last, lines_none, free_append, free_before}
use Rattle.console.specs.Handing.{HandsOn, AppendsFront, Printed, PrintedFront}
use Rattle.console.specs.Showing.{shown}
use Rattle.console.proofs.HandingLaws.{hands_fails, hands_whole, front_longer}
use Rattle.console.proofs.ShowingLaws.{shown_more, shown_none, nothing_shown}

-- ---- lines
first_line : (cs block xs : List ℕ) → Free cs → has_end block ≡ true
    → lines_of (cs ++ (block ++ xs)) ≡ (cs ++ before_end block) ∷ lines_of (after_end block ++ xs)
first_line cs block xs f h =
    ap (λ (t : List ℕ). lines_of (cs ++ (t ++ xs))) (ends_so block h)
    ∙ ap (λ (t : List ℕ). lines_of (cs ++ t)) (append_assoc (before_end block) (0x0A ∷ after_end block) xs)
    ∙ ap lines_of (sym (append_assoc cs (before_end block) (0x0A ∷ (after_end block ++ xs))))
    ∙ lines_line (cs ++ before_end block) (after_end block ++ xs) (free_append cs (before_end block) f (free_before block))

-- a last line that lacks its LF, if there is one
last_line : (cs : List ℕ) → Free cs → (cs ≡ [] → ⊥) → lines_of cs ≡ cs ∷ []
last_line [] f n = absurd (n refl)
last_line (c ∷ cs) f n = lines_last c cs f

pub some_last : (line cs : List ℕ) (b : Bool) → b ≡ eqb (length line) 0 → b ≡ false → Free cs → line ≡ shown cs → lines_of cs ≡ cs ∷ []
some_last line cs b p q f e = last_line cs f (λ z. eqb-false (length line) 0 (sym p ∙ q) (ap length (e ∙ ap shown z ∙ sym shown_none)))

pub none_last : (line cs : List ℕ) (b : Bool) → b ≡ eqb (length line) 0 → b ≡ true → line ≡ shown cs → lines_of cs ≡ []
none_last line cs b p q e = ap lines_of (nothing_shown cs (sym (empty_so line (eqb-true (length line) 0 (sym p ∙ q))) ∙ e)) ∙ lines_none
  where
    empty_so : (s : List ℕ) → length s ≡ 0 → s ≡ []
    empty_so [] z = refl
    empty_so (c ∷ s) z = absurd (omega arith)

-- ---- between two steps, for whatever follows what was read: what the writer took, then what is on the page, then what is said to the
-- lines to come is the text. The lines to come are those of the characters so far, what is left of the block, and what follows
pub record Stands (text : List ℕ → List ℕ) (known left from now : Option (List ℕ)) (page : List ℕ) (says : List (List ℕ) → List ℕ) (line block : List ℕ)
    : Type 0 where
  pub read : List ℕ
  pub chars : List ℕ
  pub front : List ℕ
  pub lost : Consumes known left read
  pub free : Free chars
  pub seen : line ≡ shown chars
  pub took : Appends from now front
  pub same : (rest : List ℕ) → front ++ (page ++ says (lines_of (chars ++ (block ++ rest)))) ≡ text (read ++ rest)

-- an answer to a line
abbrev pub Answers : List ℕ → List ℕ → (List (List ℕ) → List ℕ) → List ℕ → (List (List ℕ) → List ℕ) → Type 0
Answers line page says page' says' =
    (chars : List ℕ) (lines : List (List ℕ)) → line ≡ shown chars → page' ++ says' lines ≡ page ++ says (chars ∷ lines)

pub stands_first : (known from : Option (List ℕ)) (page : List ℕ) (says : List (List ℕ) → List ℕ) (line block : List ℕ)
    → line ≡ [] → block ≡ [] → Stands (λ all. page ++ says (lines_of all)) known known from from page says line block
stands_first known from page says line block l b = record {
  read = [];
  chars = [];
  front = [];
  lost = loses_none known;
  free = tt;
  seen = l ∙ shown_none;
  took = takes_none from;
  same = λ rest. ap (λ (t : List ℕ). page ++ says (lines_of (t ++ rest))) b;
}

-- at a return: what is still to be written is a text, with whatever follows or at the end of the input
pub record Left (text : List ℕ → List ℕ) (known left from now : Option (List ℕ)) (to_write : List ℕ) : Type 0 where
  pub read : List ℕ
  pub ended : Bool
  pub lost : Consumes known left read
  pub last : ended ≡ true → IsAtEnd left
  pub hands : (rest : List ℕ) → (ended ≡ true → rest ≡ []) → HandsOn from now (text (read ++ rest)) to_write

module _ (text : List ℕ → List ℕ) (known left from now : Option (List ℕ)) (to_write : List ℕ) (x : Left text known left from now to_write)
    (now' : Option (List ℕ)) where
  -- all of it was written, or a beginning
  pub written : Appends now now' to_write → Printed text known left from now'
  written t = record {
    read = x.read;
    ended = x.ended;
    lost = x.lost;
    last = x.last;
    took = λ rest e. hands_whole _ _ _ _ _ (x.hands rest e) t;
  }

  pub begun : AppendsFront now now' to_write → PrintedFront text known left from now'
  begun f = record {
    read = x.read;
    ended = x.ended;
    lost = x.lost;
    last = x.last;
    took = λ rest e. hands_fails _ _ _ _ _ (x.hands rest e) f;
  }

module _ (text : List ℕ → List ℕ) (known left from now : Option (List ℕ)) (page : List ℕ) (says : List (List ℕ) → List ℕ) (line block : List ℕ)
    (x : Stands text known left from now page says line block) where
  pub stands_handed : (now' : Option (List ℕ)) (page' : List ℕ) → HandsOn now now' page page' → Stands text known left from now' page' says line block
  stands_handed now' page' h = record {
    read = x.read;
    chars = x.chars;
    front = x.front ++ h.front;
    lost = x.lost;
    free = x.free;
    seen = x.seen;
    took = takes_more from now now' x.front h.front x.took h.took;
    same =
        λ rest.
        let t : List ℕ = says (lines_of (x.chars ++ (block ++ rest))) in
        append_assoc x.front h.front (page' ++ t)
        ∙ ap (λ (u : List ℕ). x.front ++ u) (sym (append_assoc h.front page' t) ∙ ap (λ (u : List ℕ). u ++ t) h.all)
        ∙ x.same rest;
  }

  -- an error while the text was handed on, or of the reader: it lost nothing more
  pub stands_fails : (left' now' : Option (List ℕ)) → Keeps left left' → AppendsFront now now' page → PrintedFront text known left' from now'
  stands_fails left' now' k f = record {
    read = x.read;
    ended = false;
    lost = loses_kept known left left' x.read x.lost k;
    last = λ e. never e;
    took =
        λ rest e.
        let t : List ℕ = says (lines_of (x.chars ++ (block ++ rest))) in
        let h : HandsOn from now (text (x.read ++ rest)) (page ++ t) = record { front = x.front; all = x.same rest; took = x.took } in
        hands_fails _ _ _ _ _ h (front_longer _ _ page t f);
  }

  -- the program has ended its work
  pub stands_done : ((lines : List (List ℕ)) → says lines ≡ says []) → Left text known left from now (page ++ says [])
  stands_done h = record {
    read = x.read;
    ended = false;
    lost = x.lost;
    last = λ e. never e;
    hands =
        λ rest e. record {
          front = x.front;
          all = ap (λ (t : List ℕ). x.front ++ (page ++ t)) (sym (h (lines_of (x.chars ++ (block ++ rest))))) ∙ x.same rest;
          took = x.took;
        };
  }

  -- ---- what is left of a block moves to the line
  module _ (line' block' : List ℕ) (l : line' ≡ shown (line ++ before_end block)) (b : block' ≡ after_end block) where
    seen_so : line' ≡ shown (x.chars ++ before_end block)
    seen_so = l ∙ ap (λ (t : List ℕ). shown (t ++ before_end block)) x.seen ∙ shown_more x.chars (before_end block)

    -- with its end, and it is answered
    pub stands_answered : has_end block ≡ true → (page' : List ℕ) (says' : List (List ℕ) → List ℕ) (line'' : List ℕ) → line'' ≡ []
        → Answers line' page says page' says' → Stands text known left from now page' says' line'' block'
    stands_answered e page' says' line'' n a = record {
      read = x.read;
      chars = [];
      front = x.front;
      lost = x.lost;
      free = tt;
      seen = n ∙ shown_none;
      took = x.took;
      same =
          λ rest.
          ap (λ (t : List ℕ). x.front ++ (page' ++ says' (lines_of (t ++ rest)))) b
          ∙ ap (λ (t : List ℕ). x.front ++ t) (a (x.chars ++ before_end block) (lines_of (after_end block ++ rest)) seen_so)
          ∙ ap (λ (ls : List (List ℕ)). x.front ++ (page ++ says ls)) (sym (first_line x.chars block rest x.free e))
          ∙ x.same rest;
    }

    -- and the block is used up
    pub stands_used : has_end block ≡ false → Stands text known left from now page says line' [] × (block' ≡ [])
    stands_used e =
        let k = goes_on_so block e in (
          record {
            read = x.read;
            chars = x.chars ++ before_end block;
            front = x.front;
            lost = x.lost;
            free = free_append x.chars (before_end block) x.free (free_before block);
            seen = seen_so;
            took = x.took;
            same =
                λ rest.
                ap (λ (t : List ℕ). x.front ++ (page ++ says (lines_of ((x.chars ++ t) ++ rest)))) k.0
                ∙ ap (λ (t : List ℕ). x.front ++ (page ++ says (lines_of t))) (append_assoc x.chars block rest)
                ∙ x.same rest;
          },
          b ∙ k.1,
        )

module _ (text : List ℕ → List ℕ) (known left from now : Option (List ℕ)) (page : List ℕ) (says : List (List ℕ) → List ℕ) (line : List ℕ)
    (x : Stands text known left from now page says line []) (left' : Option (List ℕ)) where
  -- ---- another block
  pub stands_filled : (block' : List ℕ) → Consumes left left' block' → Stands text known left' from now page says line block'
  stands_filled block' c = record {
    read = x.read ++ block';
    chars = x.chars;
    front = x.front;
    lost = loses_more known left left' x.read block' x.lost c;
    free = x.free;
    seen = x.seen;
    took = x.took;
    same = λ rest. x.same (block' ++ rest) ∙ ap text (sym (append_assoc x.read block' rest));
  }

  -- ---- the end of the input
  module _ (block' : List ℕ) (c : Consumes left left' block') (b : block' ≡ []) (e : IsAtEnd left') where
    pub stands_ended : (page' : List ℕ) (says' : List (List ℕ) → List ℕ)
        → ((chars : List ℕ) → Free chars → line ≡ shown chars → page' ++ says' [] ≡ page ++ says (lines_of chars)) → Left text known left' from now (page' ++ says' [])
    stands_ended page' says' q = record {
      read = x.read ++ block';
      ended = true;
      lost = loses_more known left left' x.read block' x.lost c;
      last = λ t. e;
      hands =
          λ rest n. record {
            front = x.front;
            all =
                ap (λ (t : List ℕ). x.front ++ t) (q x.chars x.free x.seen)
                ∙ ap (λ (t : List ℕ). x.front ++ (page ++ says (lines_of t))) (sym (append-nil x.chars))
                ∙ x.same []
                ∙ ap (λ (t : List ℕ). text (x.read ++ t)) (sym (ap₂ (λ (s t : List ℕ). s ++ t) b (n refl)))
                ∙ ap text (sym (append_assoc x.read block' rest));
            took = x.took;
          };
    }
