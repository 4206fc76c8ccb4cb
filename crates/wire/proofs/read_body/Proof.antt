-- `read_body`, step by step: the array is lent to `read_into`, which fills it, and then shared for as long as the caller lends it. So
-- the value that it has at that point is its last. For every `Logic`; assumes nothing.
use Rattle.std.proofs.Common.{◌≡◌, ℕ, List, [], ◌∷◌, refl, sym, ap, ◌∙◌, w8, MutBor}
use Rattle.std.proofs.raw_atomic.Walks.{proved}
use base.Fraction.{full_share}
use base.Logic.{id⊢, emp}
use base.Fml.{Lft, ftrue, flft, fres}
use mir.Syntax.{named}
use mir.Val.{Val}
use contract.Monad.{fact, fact_i}
use contract.Running.{tables}
use types.Kit.{‵, raw, ◌⊛◌, some, later, ◌$◌, ◌∵◌, !, qed, done, move, keep, use0, use1, use2, use3, split, split3, join, fsplit, fjoin, feq_i, pick, await, suffices}
use types.Run.{enter, addr, stop, no_more, and_then, returns}
use types.ByLocal.{alloc_all, pass_all, free_all, look_at, get, through, sets, lands_as}
use types.Tokens.{lft_new, lft_end}
use borrow.Rule.Reshare.{ref_Share}
use denote.Array.{Array-row_laws}
use denote.Builtin.{u8, usize}
use denote.Copied.{uint_Copied}
use denote.Exit.{yes, no}
use denote.Laws.{Is, shows}
use denote.Lend.{lends_again, comes_back, LentAgain}
use denote.Memory.{hidden_shr}
use denote.Param.Laws.{of_field, Laws}
use denote.Param.Shared.{copy_shared}
use denote.Plain.{uint_row_laws}
use denote.Ref.{Bor, MutRef, mut_vals, mut_Tells}
use denote.Shares.{Shares-Array}
use denote.Signature.{plain, type_at, shr_slice_of}
use denote.Signature.Array.{array_of}
use denote.Slice.{ShrSlice, shr_slice_vals, shr_slice_Tells}
use denote.Steps.{nothing, heard, peeks}
use denote.Struct.Field.{u8-field, u64-field}
use denote.Struct.Laws.{u8-laws, u8-copy, u64-laws, u64-copy}
use denote.Struct.Tuple.{tuple_laws, Tuple}
use denote.Triple.Call.{calls_at}
use denote.Triple.Clauses.{lasts}
use denote.Triple.Spec.{triple_of}
use denote.Triple.Table.{framed}
use denote.Triple.Walked.{Stays, stay_dropped, Goes-dropped, Goes-spent_ref, ends_at}
use Rattle.std.specs.Prelude.{Option, Result, drop}
use Rattle.std.specs.contracts.result.Result.{the_row as ResultOf}
use Rattle.std.proofs.result.Result.TheLaws.{the_row_laws as result_laws}
use Rattle.stuffing.specs.Stuffing.{unstuff}
use Rattle.wire.specs.Body.{shown, answer_of, answer_to_body, body_answer, held_in, Within, left_in, left_behind, Leaves, read_body}
use Rattle.wire.specs.declared.Body.{Body}
use Rattle.wire.specs.declared.LineFault.{LineFault}
use Rattle.wire.specs.contracts.Body.{the_row as body}
use Rattle.wire.specs.contracts.LineFault.{the_row as fault}
use Rattle.wire.specs.contracts.lent_on as lent_on
use Rattle.wire.specs.contracts.read_body as f
use Rattle.wire.specs.contracts.read_into as read_into
use Rattle.wire.proofs.Body.TheLaws as the_body
use Rattle.wire.proofs.Lending.{Bytes, leaves}
use Rattle.wire.proofs.LineFault.TheLaws.{the_row_laws as fault_laws}
use Rattle.wire.proofs.lent_on.Met.{met as lends_on}
use Rattle.wire.proofs.read_body.Statement.{statement}
use Rattle.wire.proofs.read_body.Code as code
use Rattle.wire.proofs.read_into.Met.{met as reads}

-- what `read_into` returns, and what is returned here
found_laws : Laws (ResultOf (Tuple (u8 ∷ usize ∷ [])) fault)
found_laws = result_laws (Tuple (u8 ∷ usize ∷ [])) fault
    (tuple_laws (u8 ∷ usize ∷ []) (of_field u8-field u8-laws refl (copy_shared u8-field u8-copy), (of_field u64-field u64-laws refl (copy_shared u64-field u64-copy), tt)))
    fault_laws

body_laws : (κ : Lft) → Laws (ResultOf (body (record { mir = named 1; lft = κ })) fault)
body_laws κ = result_laws (body (record { mir = named 1; lft = κ })) fault (the_body.the_row_laws (record { mir = named 1; lft = κ })) fault_laws

-- nothing is left of the parameters
abbrev stayed : Stays f.ended.signature.params f.ended.kept
stayed = (stay_dropped _ yes, (stay_dropped _ no, tt))

pub read_body_spec : {M : Type 1} → statement M
read_body_spec 𝓤 𝓛 𝓜 𝓡 wired =
    let c = f.clauses 𝓛 𝓜.mem 𝓡.returns in let 𝓣 = tables 𝓤 𝓛.H 𝓜 𝓡 𝓡.env in
    proved 𝓛 f.ended stayed c 𝓜 𝓡 (Goes-dropped 𝓛 2 (shr_slice_of (0 ∷ []) tt (plain (λ _. u8))) yes (λ κs x w. refl), (Goes-spent_ref 𝓛 2 (1 ∷ []) tt (array_of (plain (λ _. u8)) 272), tt))
    f.Key.name code.function (code.unfolded 𝓤 𝓛.H 𝓜 𝓡 wired)
    (λ κs. (shr_slice_vals, (mut_vals, tt))) (λ κs. (shr_slice_Tells (named 0) κs.0 u8, (mut_Tells (named 1) κs.1.0 Bytes, tt))) (λ κs qs bounds a _ are.
    let κ₀ = κs.0 in let q₀ = qs.0 in let κ = κs.1.0 in let q = qs.1.0 in
    let s = a.0 in let r = a.1.0 in let b = r.ref_ptr.0 in let o = r.ref_ptr.1 in let us = shr_slice_vals s in let vs = mut_vals r in
    let plain_bytes = unstuff (drop 1 s.now) in
    let Ref = λ (κ' : Lft) (x : MutBor (List ℕ)). (MutRef (named 1) κ' Bytes).own_val x vs in
    qed 𝓛 (((‵ (flft κ₀ q₀) ⊛ ‵ (flft κ q) ⊛ ‵ ftrue) ⊛ ‵ ((ShrSlice (named 0) κ₀ u8).own_val s us) ⊛ ‵ (Ref κ r) ⊛ ‵ ftrue) ∷ ‵ ftrue ∷ []) ∵
    split ! $ split ! $ move ! (1 ∷ []) $ split ! $ move ! (3 ∷ []) $ split ! $ move ! (1 ∷ []) $ split ! $ keep ! (0 ∷ 2 ∷ 3 ∷ 5 ∷ []) $
    enter ! _ _ _ _ _ $ alloc_all ! (λ l. pass_all ! refl ((tt, (tt, (record { fits = are.0.0.1.0 }, tt))), ((tt, tt), tt)) $
    -- [the array; the body; the token of κ; that of κ₀]. The array is lent to `read_into` for a lifetime α
    sets ! (addr ! (through ! refl (stop !))) refl (tt, tt) $
    lft_new ! tt (λ α. move ! (1 ∷ 3 ∷ []) $
    use2 𝓛 (later (some (λ (δ : ℕ). ‵ (Ref (α ∷ []) (record r { ghost_name = δ })) ⊛ ‵ (LentAgain Bytes κ (α ∷ []) q r.ghost_name b o δ r.now))))
    (lends_again 𝓛 Bytes (named 1) κ (α ∷ []) q r.ghost_name b o (named 1) r.now) $ await ! tt $ pick ! (λ δ. split ! $
    -- [the loan; what the lender keeps; the token of α; the body; the token of κ₀]
    let G = triple_of 𝓛 read_into.signature (read_into.spec 𝓛 𝓜.mem 𝓡.returns) in
    let z : G.Ghost = (((κ₀, (α ∷ [], tt)), (q₀, (full_share, tt)), tt, (s, (record r { ghost_name = δ }, tt)), (us, (vs, tt))), tt) in
    nothing ! $ move ! (1 ∷ 0 ∷ []) $ join ! $ move ! (3 ∷ 0 ∷ []) $ join ! $ nothing ! $ move ! (3 ∷ 0 ∷ []) $ join ! $ move ! (3 ∷ 0 ∷ []) $ join ! $ join ! $
    nothing ! $ move ! (1 ∷ 0 ∷ []) $ use2 𝓛 (raw (G.pre z)) (id⊢ 𝓤 _) $
    calls_at ! (framed 𝓤 𝓛.H 𝓜 𝓣) G (reads 𝓤 𝓛 𝓜 𝓡 (code.calls-wire::read_into 𝓡.env wired)) z
    (and_then ! (get ! refl) (and_then ! (get ! refl) (no_more !))) (λ v.
    let F = type_at read_into.signature.result z.0.0 in
    use1 𝓛 (later (some (λ (t : Result (ℕ × ℕ) LineFault). ((‵ (flft κ₀ q₀) ⊛ ‵ (flft (α ∷ []) full_share) ⊛ ‵ ftrue) ⊛ ‵ (F.own_val t (v ∷ []))) ⊛
    some (λ (ws : Unit {0} × (List ℕ × Unit {0})). ‵ (lasts read_into.ended z.0.0 z.0.3 ws)
    ⊛ raw (fact 𝓤 (held_in t ws.1.0 ≡ read_body s.now)) ⊛ raw (fact 𝓤 (Within 272 t)) ⊛ raw (fact 𝓤 (ws.1.0 ≡ left_in t plain_bytes)))))) (id⊢ 𝓤 _) $
    await ! tt $ pick ! (λ t. split ! $ split ! $ split ! $ move ! (1 ∷ []) $ split ! $ lft_end ! tt $
    -- [α is over; nothing; the token of κ₀; what was found; what is said of it; what the lender keeps]
    move ! (4 ∷ []) $ pick ! (λ ws. split ! $ move ! (1 ∷ []) $ split ! $ heard ! _ (λ found. split ! $ heard ! _ (λ within. heard ! _ (λ filled.
    let last = ws.1.0 in
    fsplit ! $ move ! (1 ∷ []) $ fsplit ! $ fsplit ! $
    -- [the loan's last value; its borrow; nothing, twice; α is over; nothing; the token of κ₀; what was found; what the lender keeps]
    move ! (4 ∷ 8 ∷ 0 ∷ []) $ use3 𝓛 (later (‵ (Ref κ (record r { now = last })) ⊛ ‵ (flft κ q)))
    (comes_back 𝓛 Bytes (named 1) κ (α ∷ []) q r.ghost_name b o δ r.now last) $ await ! tt $ split ! $
    -- [the array; the token of κ; four that are not needed; the token of κ₀; what was found]. The array is shared for all of κ
    move ! (7 ∷ []) $ peeks ! F (Is F) (shows 𝓛 F) t (v ∷ []) (λ is. lands_as ! refl refl ((found_laws.lawful 𝓛).typed t (v ∷ []) is).0 $
    sets ! (addr ! (through ! refl (stop !))) refl (tt, tt) $
    move ! (1 ∷ []) $ fsplit ! $ move ! (1 ∷ 3 ∷ []) $
    use2 𝓛 (later (‵ (hidden_shr Bytes κ last b o) ⊛ ‵ (fres r.ghost_name (Bytes.coded.code last)) ⊛ ‵ (flft κ q)))
    (ref_Share 𝓛 Bytes b o r.ghost_name last (Array-row_laws u8 (uint_row_laws w8) 272) κ q (Shares-Array 𝓛 u8 tt 272 κ ((uint_Copied 𝓛 w8).shares full_share κ))) $ await ! tt $ split3 ! $
    feq_i ! (List Val) vs vs refl $ fjoin ! $
    -- [the `&`; the array's last value; the token of κ; its place; what was found]
    let y : Bor (List ℕ) = record { ref_ptr = (b, o); now = last } in
    let H = triple_of 𝓛 lent_on.signature (lent_on.spec 𝓛 𝓜.mem 𝓡.returns) in
    let x : H.Ghost = (((κ, tt), (q, tt), tt, (y, (t, tt)), (vs, (v ∷ [], tt))), tt) in
    nothing ! $ move ! (5 ∷ 0 ∷ []) $ join ! $ move ! (1 ∷ 0 ∷ []) $ join ! $ nothing ! $ move ! (3 ∷ 0 ∷ []) $ join ! $ join ! $
    use0 𝓛 (raw (fact 𝓤 (Within 272 t))) (fact_i 𝓤 (Within 272 t) (emp 𝓤) within) $ move ! (1 ∷ 0 ∷ []) $ use2 𝓛 (raw (H.pre x)) (id⊢ 𝓤 _) $
    calls_at ! (framed 𝓤 𝓛.H 𝓜 𝓣) H (lends_on 𝓤 𝓛 𝓜 𝓡 (code.calls-wire::lent_on 𝓡.env wired)) x
    (and_then ! (get ! refl) (and_then ! (get ! refl) (no_more !))) (λ w.
    let R = type_at f.signature.result κs in
    use1 𝓛 (later (some (λ (d : Result Body LineFault). ((‵ (flft κ q) ⊛ ‵ ftrue) ⊛ ‵ (R.own_val d (w ∷ []))) ⊛
    some (λ (ends : Unit {0} × (Unit {0} × Unit {0})). ‵ (lasts lent_on.ended x.0.0 x.0.3 ends) ⊛ raw (fact 𝓤 (shown d ≡ held_in t last)) ⊛ raw (fact 𝓤 (left_behind d ≡ left_in t)))))) (id⊢ 𝓤 _) $
    await ! tt $ pick ! (λ d. split ! $ split ! $ move ! (2 ∷ []) $ pick ! (λ ends. split ! $ move ! (1 ∷ []) $ split ! $ heard ! _ (λ lent. heard ! _ (λ same.
    move ! (2 ∷ []) $ peeks ! R (Is R) (shows 𝓛 R) d (w ∷ []) (λ made. lands_as ! refl refl (((body_laws κ).lawful 𝓛).typed d (w ∷ []) made).0 $
    returns ! (look_at ! 0 refl) $ free_all ! refl $ keep ! (0 ∷ 2 ∷ 3 ∷ 9 ∷ []) $
    -- [the result; the token of κ; the array's last value; the token of κ₀]
    suffices ! _ (ends_at 𝓛 f.ended stayed c ((κs, qs, bounds, a, (us, (vs, tt))), tt) w d (tt, (tt, tt)) (tt, (tt, tt))) $
    let read : shown d ≡ read_body s.now = lent ∙ found in
    let left : last ≡ left_behind d plain_bytes = filled ∙ sym (ap (λ (k : Option (List ℕ) → List ℕ). k plain_bytes) same) in
    move ! (2 ∷ []) $ use1 𝓛 (‵ (Leaves r (left_behind d plain_bytes))) (leaves 𝓛 r last (left_behind d plain_bytes) left) $
    use0 𝓛 (raw (fact 𝓤 (answer_of d ≡ answer_to_body s.now))) (fact_i 𝓤 (answer_of d ≡ answer_to_body s.now) (emp 𝓤) (ap body_answer read)) $ join ! $
    use0 𝓛 (raw (fact 𝓤 (shown d ≡ read_body s.now))) (fact_i 𝓤 (shown d ≡ read_body s.now) (emp 𝓤) read) $ join ! $
    move ! (1 ∷ []) $ nothing ! $ nothing ! $ fjoin ! $ nothing ! $ fjoin ! $ join ! $ move ! (3 ∷ 2 ∷ []) $ join ! $ join ! $ done !)))))))))))))))))
