-- What the terminals show, of every history of effects on a safe module: in RUN each output is the byte of the last accepted write
-- that covered it since RUN was entered, or 00h; in fallback it is 00h. Assumes nothing.
use mathlib.Core.Bool.{Bool, true, false, ◌&&◌}
use mathlib.Core.List.{List}
use mathlib.Core.Option.{Option, some}
use mathlib.Core.Path.{◌≡◌, refl, sym, ap, ◌∙◌}
use Prim.Native.Nat.{ℕ, ◌+◌, ◌-◌, ◌<◌}
use borrow.Author.Tests.{eq-eqb, ne_eqb}
use lib.Dec.{eqb, ltb, leb}
use lib.ListN.{length, get_or}
use Rattle.base.specs.Choice.{choose}
use Rattle.base.proofs.Choosing.{choose_true, choose_false}
use Rattle.rules.specs.Calls.{Call}
use Rattle.rules.specs.Registers.{outputs_at, image}
use Rattle.rules.specs.Requests.{Ask, writes}
use Rattle.rules.specs.State.{in_run, in_fallback}
use Rattle.demand3.specs.Events.{Event}
use Rattle.demand3.specs.History.{History, power_on, ◌▸◌, Entry}
use Rattle.demand3.specs.Terminals.{covers, byte_for, last_byte_by, last_byte, or_zero, shown, Terminals}
use Rattle.demand3.proofs.Device.{HistoryOf, start, step, of_each}
use Rattle.demand3.proofs.Effects.{Did, fell_at_tick, fell_at_tick_and_end, ticked_on, ticked_on_and_end, kept, lost, missed, heard_only, entered_run, taken_only, asked, configured, released_by, withdrawn, output, named_first, acknowledged}
use Rattle.demand3.proofs.Link.{view_entry, not_both, by_mode}
use Rattle.demand3.proofs.SafeModules.{StartsSafe, CallSafe, safe_module}
use Rattle.demand3.proofs.Views.{View, Facts}

-- not in RUN, where in fallback
not_run : (mode : ℕ) → mode ≡ in_fallback → eqb mode in_run ≡ false
not_run mode p = ne_eqb mode in_run (λ run. not_both mode run p)

-- a request that covers nothing of output i leaves its last byte
spared : (i : ℕ) (ask : Ask) (x : Option ℕ) → covers i ask ≡ false → choose (covers i ask) (some (byte_for i ask)) x ≡ x
spared i ask x e = choose_false (some (byte_for i ask)) x e

-- the bytes xs from register add on, over what output i was: the write covers it, or it stays
over : (add : ℕ) (xs : List ℕ) (i : ℕ) (x : Option ℕ)
    → choose (leb add (outputs_at + i)) (choose (ltb (outputs_at + i) (add + length xs)) (get_or xs (outputs_at + i - add) 0) (or_zero x)) (or_zero x)
    ≡ or_zero (choose (covers i (writes add xs)) (some (byte_for i (writes add xs))) x)
over add xs i x = go (leb add (outputs_at + i)) (ltb (outputs_at + i) (add + length xs))
  where
    go : (a b : Bool) → choose a (choose b (get_or xs (outputs_at + i - add) 0) (or_zero x)) (or_zero x) ≡ or_zero (choose (a && b) (some (get_or xs (outputs_at + i - add) 0)) x)
    go true true = refl
    go true false = refl
    go false b = refl

-- ---- one call, on a module of the view v that leaves the view u; output i
module _ (h : History) (v : View) (f : Facts v) (call : Call) (n : ℕ) (ev : Event) (u : View) (i : ℕ) (b : i < image)
    (held : v.mode ≡ in_run → v.registers.out i ≡ or_zero (last_byte i h)) where
  abbrev this : Entry
  this = view_entry v call n ev u

  -- ends in fallback with the output zero
  falls : u.mode ≡ in_fallback → u.registers.out i ≡ 0 → u.registers.out i ≡ shown i (h ▸ this)
  falls m e = e ∙ sym (choose_false (or_zero (last_byte i (h ▸ this))) 0x00 (not_run u.mode m))

  -- stays in RUN, with the last byte that the event leaves
  runs_on : v.mode ≡ in_run → u.mode ≡ in_run → u.registers.out i ≡ or_zero (last_byte_by i ev (last_byte i h)) → u.registers.out i ≡ shown i (h ▸ this)
  runs_on p q e = rw (p, q) e

  -- the mode stays, and the event covers nothing of the output
  stays : u.mode ≡ v.mode → u.registers.out i ≡ v.registers.out i → last_byte_by i ev (last_byte i h) ≡ last_byte i h → u.registers.out i ≡ shown i (h ▸ this)
  stays m e w =
      by_mode v f
      (λ run. runs_on run (m ∙ run) (e ∙ held run ∙ ap or_zero (sym w)))
      (λ rest. falls (m ∙ rest) (e ∙ f.cold rest i b))

  -- RUN is entered
  enters : v.mode ≡ in_fallback → u.mode ≡ in_run → u.registers.out i ≡ v.registers.out i → u.registers.out i ≡ shown i (h ▸ this)
  enters p q e = rw (p, q) (e ∙ f.cold p i b)

  by_effect : {w : View} → Did v call n ev w → u.mode ≡ w.mode → u.registers.out i ≡ w.registers.out i → u.registers.out i ≡ shown i (h ▸ this)
  by_effect (fell_at_tick g e at) m x = falls m x
  by_effect (fell_at_tick_and_end g e at) m x = falls m x
  by_effect (ticked_on e below on) m x = stays m x (rw e refl)
  by_effect (ticked_on_and_end e below ends) m x = stays m x (rw e refl)
  by_effect (kept e) m x = stays m x (rw e refl)
  by_effect (lost e none-asked w) m x = falls m x
  by_effect (missed e none-asked) m x = stays m x (rw e refl)
  by_effect (heard_only src cyc e known timely) m x = stays m x (rw e refl)
  by_effect (entered_run src cyc e known p q) m x = enters p m x
  by_effect (taken_only r e reach) m x = stays m x (rw e refl)
  by_effect (asked r e reach w) m x = stays m x (rw e (spared i r.ask (last_byte i h) (w.none_covered i b)))
  by_effect (configured r t y z e reach w p) m x = stays m x (rw e (spared i r.ask (last_byte i h) (w.none_covered i b)))
  by_effect (released_by r e reach w o) m x = stays m x (rw e (spared i r.ask (last_byte i h) (w.none_covered i b)))
  by_effect (withdrawn r e reach w o) m x = falls m x
  by_effect (output r add xs ok e reach w run laid) m x =
      runs_on run (m ∙ run) (rw (e, laid.ask) (x ∙ rw (held run) (over add xs i (last_byte i h))))
  by_effect (named_first sid e no_one) m x = stays m x (rw e refl)
  by_effect (acknowledged sid e named-is) m x = stays m x (rw e refl)

  pub shown_by_lem : CallSafe v call n ev u → u.registers.out i ≡ shown i (h ▸ this)
  shown_by_lem c = by_effect c.did c.shows.mode (c.shows.registers.out i b)

-- ---- every call of a history

-- the history, and in RUN the last byte of each output
record Held (h : History) (v : View) : Type 0 where
  made : HistoryOf safe_module h v
  bytes : (i : ℕ) → i < image → v.mode ≡ in_run → v.registers.out i ≡ or_zero (last_byte i h)

-- what is shown before a call
held_shown : {h : History} {v : View} → Facts v → Held h v → (i : ℕ) → i < image → v.registers.out i ≡ shown i h
held_shown f k i b = by_last f k.made (k.bytes i b)
  where
    by_last : {h : History} {v : View} → Facts v → HistoryOf safe_module h v → (v.mode ≡ in_run → v.registers.out i ≡ or_zero (last_byte i h)) → v.registers.out i ≡ shown i h
    by_last f (start s) held = f.cold s.mode i b
    by_last f (step {z = z} call n ev c m) held =
        by_mode z f
        (λ run. held run ∙ sym (choose_true _ 0x00 (eq-eqb z.mode in_run run)))
        (λ rest. f.cold rest i b ∙ sym (choose_false _ 0x00 (not_run z.mode rest)))

at_start : (v : View) → StartsSafe v → Held power_on v
at_start v s = record { made = start s; bytes = λ i b run. absurd (not_both v.mode run s.mode) }

record Shown (h : History) (e : Entry) : Type 0 where
  before : (i : ℕ) → i < image → e.before.out i ≡ shown i h
  after : (i : ℕ) → i < image → e.after.out i ≡ shown i (h ▸ e)

-- one call more
shows : (h : History) (v u : View) (call : Call) (n : ℕ) (ev : Event) → CallSafe v call n ev u → Held h v → Shown h (view_entry v call n ev u)
shows h v u call n ev c k = record { before = held_shown c.facts k; after = λ i b. shown_by_lem h v c.facts call n ev u i b (k.bytes i b) c }

holds_on : (h : History) (v u : View) (call : Call) (n : ℕ) (ev : Event) → CallSafe v call n ev u → Held h v → Held (h ▸ view_entry v call n ev u) u
holds_on h v u call n ev c k = record {
  made = step call n ev c k.made;
  bytes = λ i b run. (shows h v u call n ev c k).after i b ∙ choose_true _ 0x00 (eq-eqb u.mode in_run run);
}

pub terminals : {h : History} {v : View} → HistoryOf safe_module h v → Terminals h
terminals m =
    let all = of_each safe_module Held at_start holds_on Shown shows m in
    record { before = λ past e c. (all past e c).before; after = λ past e c. (all past e c).after }
