-- A request that is taken is fresh, so one from a concentrator that lost the ring is not taken, nor is a copy or one whose
-- number was skipped, and a request that is not taken changes neither an output nor the mode: of a history of effects.
-- Assumes nothing.
use mathlib.Core.List.{List, ◌∷◌}
use mathlib.Core.Option.{Option, some, some-injective}
use mathlib.Core.Path.{◌≡◌, refl, sym, ◌∙◌, ap, subst}
use Prim.Native.Nat.{ℕ}
use Rattle.demand3.specs.Events.{Event, a_tick, a_sync, a_missed_sync, a_request, a_refused_write, an_assignment, nothing}
use Rattle.demand3.specs.History.{History, Entry}
use Rattle.demand3.specs.Sharper.{accepts, Brings, Unchanged, Deposed, by, since, Among, here, there, Sharper}
use Rattle.demand3.specs.Words.{SyncOf, event, sync_after, last_sync, taken, skipped, Differs, AllDiffer}
use Rattle.demand3.proofs.Device.{HistoryOf}
use Rattle.demand3.proofs.SafeModules.{safe_module, One, each_call}
use Rattle.demand3.proofs.Views.{View}

-- ---- the words

-- the last accepted sync is another's
record OtherLast (src : ℕ) (Y : Option SyncOf) : Type 0 where
  other : ℕ
  cyc : ℕ
  last : Y ≡ some (other, cyc)
  differs : src ≡ other → ⊥

other_after : (src : ℕ) (Y : Option SyncOf) (w : Event) → OtherLast src Y → ((cyc : ℕ) → w ≡ a_sync src cyc → ⊥) → OtherLast src (sync_after w Y)
other_after src Y a_tick o no_own = o
other_after src Y (a_sync x c) o no_own =
    record { other = x; cyc = c; last = refl; differs = λ e. no_own c (subst (λ (y : ℕ). a_sync x c ≡ a_sync y c) (sym e) refl) }
other_after src Y a_missed_sync o no_own = o
other_after src Y (a_request r) o no_own = o
other_after src Y (a_refused_write r) o no_own = o
other_after src Y (an_assignment sid) o no_own = o
other_after src Y nothing o no_own = o

other_last : (src : ℕ) (h : History) → Deposed src h → OtherLast src (last_sync h)
other_last src _ (by other cyc ev no_own) = rw ev record { other = other; cyc = cyc; last = refl; differs = no_own }
other_last src _ (since {h = h} {e = e} d no_own) = other_after src (last_sync h) (event e) (other_last src h d) no_own

same_source : {Y : Option SyncOf} {x c y d : ℕ} → Y ≡ some (x, c) → Y ≡ some (y, d) → x ≡ y
same_source {x = x} {c = c} {y = y} {d = d} p q = ap (λ (z : SyncOf). z.0) (some-injective (x, c) (y, d) (sym p ∙ q))

not_among : (x : ℕ) (l : List ℕ) → Differs x l → Among x l → ⊥
not_among x _ d here = d.0 refl
not_among x _ d (there {l = l} a) = not_among x l d.1 a

-- ---- the sentences

module _ (h : History) (e : Entry) (o : One h e) (src seq : ℕ) (b : Brings e.call src seq) where
  deposed_unchanged : Deposed src h → Unchanged e
  deposed_unchanged d =
      o.ignored src seq b
      (λ r src-is seq-is ev. let last = other_last src h d in
      last.differs (sym src-is ∙ same_source (o.taken r (accepts ev)).fresh.of_sync last.last))

  copy_unchanged : Among seq (taken h) → Unchanged e
  copy_unchanged m =
      o.ignored src seq b
      (λ r src-is seq-is ev. let d : AllDiffer (r.seq ∷ taken h) = rw ev at o.fine.numbers in
      not_among r.seq (taken h) d.0 (rw seq-is m))

  late_unchanged : Among seq (skipped h) → Unchanged e
  late_unchanged m =
      o.ignored src seq b
      (λ r src-is seq-is ev. not_among r.seq (skipped h) (o.taken r (accepts ev)).unskipped (rw seq-is m))

-- every request taken is fresh; no request of a deposed concentrator, no copy and no number skipped changes an output or the mode
pub sharper : {h : History} {v : View} → HistoryOf safe_module h v → Sharper h
sharper m =
    let all = each_call m in
    record {
      fresh = λ past e c r t. ((all past e c).taken r t).fresh;
      deposed = λ past e c src seq b. deposed_unchanged past e (all past e c) src seq b;
      copy = λ past e c src seq b. copy_unchanged past e (all past e c) src seq b;
      unskipped = λ past e c r t. ((all past e c).taken r t).unskipped;
      late = λ past e c src seq b. late_unchanged past e (all past e c) src seq b;
    }
