-- An accepted output write in RUN is the write that the claim allows, and keeps the link. Assumes nothing.
use mathlib.Core.Bool.{true}
use mathlib.Core.List.{List}
use mathlib.Core.Path.{◌≡◌, refl}
use Prim.Native.Nat.{ℕ, ◌+◌, ◌-◌, ◌≤◌, ◌<◌}
use native.Mathlib.Omega.{arith}
use borrow.Author.Tests.{le-leb, lt-leb, lt-ltb, le-ltb}
use lib.Dec.{leb, ltb}
use lib.ListN.{length, get_or}
use Rattle.base.specs.Choice.{choose}
use Rattle.base.proofs.Choosing.{choose_false}
use Rattle.rules.specs.Calls.{Call}
use Rattle.rules.specs.Registers.{outputs_at}
use Rattle.rules.specs.State.{in_run}
use Rattle.demand3.specs.Claim.{Written, written}
use Rattle.demand3.specs.Events.{Event, a_tick, a_request, writes_outputs, Request}
use Rattle.demand3.specs.History.{History}
use Rattle.demand3.specs.Numbers.{is_accepted}
use Rattle.demand3.proofs.Effects.{InReach, LaidWrite, takes, outputs}
use Rattle.demand3.proofs.KeptRequests.{is_taken_lem, all_differ, numbered, takes_accepted}
use Rattle.demand3.proofs.Link.{Linked, Kept, view_entry, not_both, no_tick}
use Rattle.demand3.proofs.Views.{View, Facts}

-- register j after the bytes xs are written from add on
abbrev over : ℕ → List ℕ → ℕ → ℕ → ℕ
over add xs j x = choose (leb add j) (choose (ltb j (add + length xs)) (get_or xs (j - add) 0) x) x

over_in : (add : ℕ) (xs : List ℕ) (j x : ℕ) → add ≤ j → j < add + length xs → over add xs j x ≡ get_or xs (j - add) 0
over_in add xs j x p q = rw (le-leb add j p, lt-ltb j (add + length xs) q)

over_before : (add : ℕ) (xs : List ℕ) (j x : ℕ) → j < add → over add xs j x ≡ x
over_before add xs j x p = choose_false _ _ (lt-leb add j p)

over_behind : (add : ℕ) (xs : List ℕ) (j x : ℕ) → add + length xs ≤ j → over add xs j x ≡ x
over_behind add xs j x p = rw (le-leb add j (omega arith), le-ltb j (add + length xs) p)

module _ (h : History) (v : View) (f : Facts v) (l : Linked h v) (r : Request) {d : ℕ} (reach : InReach v r d) (call : Call) (n : ℕ) (means : Event) (add : ℕ) (xs : List ℕ) (ev : means ≡ a_request r) (run : v.mode ≡ in_run) where
  not_tick : means ≡ a_tick → ⊥
  not_tick = no_tick (a_request r) tt ev

  is_written : is_accepted n ≡ true → LaidWrite call r add xs → Written h (view_entry v call n means (outputs add xs (takes d v)))
  is_written zero laid =
      let fresh = (is_taken_lem h v f l r reach).fresh in
      record {
        port = laid.port;
        body = laid.body;
        room = laid.room;
        address = laid.address;
        dest = r.dest;
        src = r.src;
        cyc = r.cyc;
        seq = r.seq;
        datl = laid.datl;
        add = add;
        xs = xs;
        called = laid.called;
        answered = zero;
        run = run;
        laid = laid.laid;
        length_is = laid.length_is;
        own = fresh.own;
        of_sync = fresh.of_sync;
        fresh = fresh.fresh;
        covered = λ i b p q. over_in add xs (outputs_at + i) (v.registers.out i) p q;
        before = λ i b p. over_before add xs (outputs_at + i) (v.registers.out i) p;
        behind = λ i b p. over_behind add xs (outputs_at + i) (v.registers.out i) p;
      }

  pub kept_output : is_accepted n ≡ true → writes_outputs r.ask ≡ true → LaidWrite call r add xs → Kept h v call n means (outputs add xs (takes d v))
  kept_output zero w laid =
      record {
        fine = record {
          outputs = written (is_written zero laid);
          leaving_run = λ x. absurd (not_both v.mode run x.to);
          numbers = rw ev (all_differ h v f l r reach);
          command_silence = λ x. absurd (not_tick x.tick);
        };
        taken = takes_accepted ev (is_taken_lem h v f l r reach);
        link = rw ev record {
          idle = λ p. rw (p, w) refl;
          numbering = numbered h v f l r reach;
          naming = l.naming;
        };
      }
