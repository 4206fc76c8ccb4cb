-- The limit of requests, whatever its value: the request that is due is taken below the limit and is 15 at it; and a sound state is
-- sound with any other limit and k that fit. Assumes nothing.
use mathlib.Core.Bool.{true}
use mathlib.Core.Path.{◌≡◌, ap, ◌∙◌}
use Prim.Native.Nat.{ℕ, ◌+◌, ◌≤◌, ◌<◌}
use native.Mathlib.Omega.{arith}
use Rattle.rules.specs.Answers.{too_many}
use Rattle.rules.specs.Fixed.{limit_of, fits}
use Rattle.rules.specs.Replies.{does}
use Rattle.rules.specs.Requests.{distance, taken_at, Ask, on_ask, on_request}
use Rattle.rules.specs.Sound.{sound}
use Rattle.rules.specs.State.{with_taken}
use Rattle.rules.specs.declared.Agent.{Agent}
use Rattle.rules.specs.declared.Fixed.{Fixed}
use Rattle.rules.proofs.Cases.{Addressed}
use Rattle.rules.proofs.Skips.{past_limit, in_reach, none_skipped}
use Rattle.rules.proofs.SoundParts.{fixed_of, parts, sound_of}

module _ (port : ℕ) (a : Agent) (dest src cyc seq : ℕ) (ask : Ask) (p : Addressed a dest src cyc) (due : distance seq cyc ≡ a.taken) where
  -- below it the request that is due is taken
  pub due_below : a.taken < limit_of a → on_request port a dest src cyc seq ask ≡ on_ask port (with_taken (a.taken + 1) a) src seq ask
  due_below h =
      in_reach port a dest src cyc seq ask p (omega arith) (omega arith) (omega (arith, h, due))
      ∙ ap (λ (d : ℕ). on_ask port (taken_at d a) src seq ask) due
      ∙ ap (λ (b : Agent). on_ask port b src seq ask) (none_skipped a)

  -- at it the answer is 15
  pub due_at : limit_of a ≤ a.taken → on_request port a dest src cyc seq ask ≡ does too_many a
  due_at h = past_limit port a dest src cyc seq ask p (omega arith) (omega arith) (omega (arith, h, due))

-- another limit, and another k
abbrev pub relimited : Fixed → ℕ → Agent → Agent
relimited f k a =
    record { regs = a.regs; known = a.known; last = a.last; silence = a.silence; idle = a.idle; cycle = a.cycle; elapsed = a.elapsed; taken = k; mode = a.mode; heard = a.heard; mark = a.mark; count = a.count; fixed = f }

pub sound_relimited : (a : Agent) (f : Fixed) (k : ℕ) → sound a ≡ true → fits f ≡ true → k ≤ f.limit → sound (relimited f k a) ≡ true
sound_relimited a f k s e h =
    let p = parts a s in
    sound_of (relimited f k a) record {
      settings = p.settings;
      sources = p.sources;
      named = p.named;
      fixed = fixed_of f e;
      k_most = h;
      e_most = p.e_most;
      last_is = p.last_is;
      heard_is = p.heard_is;
      mark_is = p.mark_is;
      by_mode = p.by_mode;
    }
