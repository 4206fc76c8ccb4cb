-- The numbers taken since the last accepted sync, and those skipped, against k: all are below k, counted from the first SEQ on,
-- so the one due and those past it are new. Over plain numbers and lists. Assumes nothing.
use mathlib.Core.List.{List, [], ◌∷◌}
use mathlib.Core.Option.{Option, some}
use mathlib.Core.Path.{◌≡◌, refl, ap}
use Prim.Native.Nat.{ℕ, zero, suc, ◌+◌, ◌-◌, ◌%◌, ◌≤◌, ◌<◌}
use native.Mathlib.Omega.{arith}
use Rattle.rules.specs.State.{is_heard, unheard}
use Rattle.demand3.specs.Numbers.{most_skipped, first_seq}
use Rattle.demand3.specs.Words.{SyncOf, due_after, FreshNumber, numbers_from, skipped_by, Differs, AllDiffer}

-- x is one of f, f + 1, .. f + k - 1 modulo 256
pub record Earlier (f k x : ℕ) : Type 0 where
  pub d : ℕ
  pub small : d < k
  pub is : x ≡ (f + d) % 256

abbrev pub AllEarlier : ℕ → ℕ → List ℕ → Type 0
AllEarlier f k [] = Unit {0}
AllEarlier f k (x ∷ l) = Earlier f k x × AllEarlier f k l

earlier_more : (f k j : ℕ) (l : List ℕ) → k ≤ j → AllEarlier f k l → AllEarlier f j l
earlier_more f k j [] h p = tt
earlier_more f k j (x ∷ l) h p =
    (record { d = p.0.d; small = omega (arith, p.0.small); is = p.0.is }, earlier_more f k j l h p.1)

-- a number after those is none of them
new_one : (f k d x : ℕ) → Earlier f k x → k ≤ d → d < 256 → (f + d) % 256 ≡ x → ⊥
new_one f k d x p h b e = omega (arith, p.small, p.is)

new : (f k d : ℕ) (l : List ℕ) → AllEarlier f k l → k ≤ d → d < 256 → Differs ((f + d) % 256) l
new f k d [] p h b = tt
new f k d (x ∷ l) p h b = (new_one f k d x p.0 h b, new f k d l p.1 h b)

-- n numbers, the first at the distance k from f
earlier_from : (n f k j x : ℕ) (l : List ℕ) → x ≡ (f + k) % 256 → k + n ≤ j → AllEarlier f j l → AllEarlier f j (numbers_from n x l)
earlier_from zero f k j x l e h p = p
earlier_from (suc n) f k j x l e h p =
    (record { d = k; small = omega arith; is = e }, earlier_from n f (k + 1) j ((x + 1) % 256) l (omega arith) (omega arith) p)

-- heard, c, k and the last source against the last accepted sync and the SEQs taken and skipped since
pub record Numbering (heard c k last : ℕ) (Y : Option SyncOf) (tk sk : List ℕ) : Type 0 where
  pub of_sync : heard ≡ is_heard → Y ≡ some (last, c)
  pub due : heard ≡ is_heard → due_after Y tk ≡ some ((first_seq c + k) % 256)
  pub earlier : heard ≡ is_heard → AllEarlier (first_seq c) k tk
  pub passed : heard ≡ is_heard → AllEarlier (first_seq c) k sk
  pub differ : AllDiffer tk

-- at an accepted sync
pub at_sync_lem : (src cyc : ℕ) → Numbering is_heard cyc 0 src (some (src, cyc)) [] []
at_sync_lem src cyc = record { of_sync = λ p. refl; due = λ p. ap some (omega arith); earlier = λ p. tt; passed = λ p. tt; differ = tt }

-- in an unheard cycle only that all differ is left
pub when_unheard : (c k last : ℕ) (Y : Option SyncOf) (tk sk : List ℕ) → AllDiffer tk → Numbering unheard c k last Y tk sk
when_unheard c k last Y tk sk d = record {
  of_sync = λ p. absurd (omega arith);
  due = λ p. absurd (omega arith);
  earlier = λ p. absurd (omega arith);
  passed = λ p. absurd (omega arith);
  differ = d;
}

-- one number more is taken, at the distance d
module _ (heard c k last seq d : ℕ) (Y : Option SyncOf) (tk sk : List ℕ) (h : heard ≡ is_heard) (low : k ≤ d) (byte : d < 256)
    (is : seq ≡ (first_seq c + d) % 256) (n : Numbering heard c k last Y tk sk) where
  pub differ_more : AllDiffer (seq ∷ tk)
  differ_more = (rw is (new (first_seq c) k d tk (n.earlier h) low byte), n.differ)

  pub not_passed : Differs seq sk
  not_passed = rw is (new (first_seq c) k d sk (n.passed h) low byte)

  -- the numbers from the one due up to it, without it, are skipped
  passed_more : AllEarlier (first_seq c) (d + 1) (skipped_by (due_after Y tk) seq sk)
  passed_more =
      let f : ℕ = first_seq c in
      let count : (seq + 256 - (f + k) % 256) % 256 ≡ d - k = omega arith in
      rw (n.due h, count) (earlier_from (d - k) f k (d + 1) ((f + k) % 256) sk refl (omega arith) (earlier_more f k (d + 1) sk (omega arith) (n.passed h)))

  pub one_more : Numbering heard c (d + 1) last Y (seq ∷ tk) (skipped_by (due_after Y tk) seq sk)
  one_more =
      record {
        of_sync = n.of_sync;
        due = λ p. rw (n.of_sync p) (ap some (omega arith));
        earlier = λ p. (record { d = d; small = omega arith; is = is }, earlier_more (first_seq c) k (d + 1) tk (omega arith) (n.earlier p));
        passed = λ p. passed_more;
        differ = differ_more;
      }

  pub number_is : d ≤ k + most_skipped → FreshNumber (due_after Y tk) seq
  number_is high = record { due = (first_seq c + k) % 256; is_due = n.due h; past = d - k; few = omega arith; number = omega arith }
