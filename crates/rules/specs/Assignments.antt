-- TID and SID assignment. Assumes nothing.
use Rattle.std.specs.Prelude.{Bool, not, ◌&&◌, ◌||◌, ℕ, eqb, leb}
use Rattle.base.specs.Choice.{choose, within}
use Rattle.rules.specs.Answers.{accepted, source, addressee, not_allowed, eight_others}
use Rattle.rules.specs.Registers.{mac_at, iid_at, tid_at, sid_at, low_bytes, low_number}
use Rattle.rules.specs.Replies.{Deed, does, acknowledges}
use Rattle.rules.specs.Sources.{is_recorded, recorded, sid_of}
use Rattle.rules.specs.State.{nobody, store, store_all}
use Rattle.rules.specs.declared.Agent.{Agent}

-- 01h to 8Eh, but not 7Dh or 7Eh
abbrev pub assignable : ℕ → Bool
assignable tid = within 0x01 0x8E tid && not (eqb tid 0x7D || eqb tid 0x7E)

-- for the module's own IID; no reply
unfoldable pub on_tid : Agent → ℕ → ℕ → Deed
on_tid a iid tid =
    choose (not (eqb iid (low_number a.regs iid_at 8))) (does addressee a)
    (choose (assignable tid) (does accepted (store tid_at tid a)) (does not_allowed a))

-- the first is accepted if SID and SRC differ from FFFFFFh; `on_sid` tests SRC
unfoldable pub on_first_sid : Agent → ℕ → ℕ → ℕ → Deed
on_first_sid a src sec sid =
    choose (eqb sid nobody) (does not_allowed a) (acknowledges (recorded src (store_all sid_at (low_bytes 3 sid) a)) src sec)

-- later ones must repeat the SID; a new SRC is recorded, and a known SRC is acknowledged again
unfoldable pub on_later_sid : Agent → ℕ → ℕ → ℕ → Deed
on_later_sid a src sec sid =
    choose (not (eqb sid (sid_of a))) (does not_allowed a)
    (choose (is_recorded a src) (acknowledges a src sec)
    (choose (leb 8 a.count) (does eight_others a)
    (acknowledges (recorded src a) src sec)))

-- for the module's own MAC
unfoldable pub on_sid : Agent → ℕ → ℕ → ℕ → ℕ → Deed
on_sid a src sec mac sid =
    choose (eqb src nobody) (does source a)
    (choose (not (eqb mac (low_number a.regs mac_at 8))) (does addressee a)
    (choose (eqb a.count 0) (on_first_sid a src sec sid) (on_later_sid a src sec sid)))
