-- The lexer is lent on to a function, and the numbers are passed on.
use Rattle.bajofeki_c.proofs.Walking.{◌≡◌, [], ◌∷◌, refl, w64, proved, id⊢, ftrue, flft, named, vptr, vint, fact, tables, ‵, raw, ◌⊛◌, some, later, prop, ◌$◌, ◌∵◌, !, qed, done, move, drop, use1, use2, split, fsplit, join, fjoin, pick, await, regoal, suffices, frame, group, enter, of_opd, addr, stop, no_more, and_then, returns, alloc_all, pass_all, free_all, look_at, get, through, sets, lands_as, usize, yes, Is, shows, uint_vals, uint_Tells, Ptr, RawPtr, block_ptr, in_a_block, rawptr_vals, rawptr_Tells, ShrRef, plain, nothing, heard, peeks, calls_at, lasts, triple_of, Stays, walk_of, says, stay_dropped, Goes-dropped, ends_at, framed, WpFn}
use Rattle.std.proofs.Common.{◌++◌}
use denote.RattleType.{owns}
use denote.Signature.{types_at}
use denote.Struct.Lending.{lent_at}
use Rattle.bajofeki_c.specs.Room.{seen_at}
use Rattle.bajofeki_c.specs.contracts.held.Held.{the_row}
use Rattle.bajofeki_c.proofs.Seen.{seen, none_at_null, lent_out}
use Rattle.bajofeki_c.specs.contracts.modes.Action as action_row
use Rattle.bajofeki_c.specs.declared.modes.Action.{Action}
use Rattle.bajofeki_c.specs.Modes.{action_at}
use Rattle.bajofeki_c.proofs.modes.Action.TheLaws as action_laws
use Rattle.bajofeki_c.specs.contracts.bajofeki_action as f
use Rattle.bajofeki_c.proofs.bajofeki_action.Statement.{statement}
use Rattle.bajofeki_c.proofs.bajofeki_action.Code as code
use Rattle.bajofeki_c.specs.contracts.modes.action_of as g
use Rattle.bajofeki_c.proofs.modes.action_of.Met.{met}

abbrev stayed : Stays f.ended.signature.params f.ended.kept
stayed = (stay_dropped _ yes, (stay_dropped _ yes, (stay_dropped _ yes, tt)))

pub bajofeki_action_spec : {M : Type 1} → statement M
bajofeki_action_spec 𝓤 𝓛 𝓜 𝓡 wired =
    let c = f.clauses 𝓛 𝓜.mem 𝓡.returns in let W = walk_of 𝓛 f.ended stayed c in let 𝓣 = tables 𝓤 𝓛.H 𝓜 𝓡 𝓡.env in
    proved 𝓛 f.ended stayed c 𝓜 𝓡
    (Goes-dropped 𝓛 0 (plain (λ _. RawPtr)) yes (λ κs x w. refl), (Goes-dropped 𝓛 0 (plain (λ _. usize)) yes (λ κs x w. refl), (Goes-dropped 𝓛 0 (plain (λ _. usize)) yes (λ κs x w. refl), tt)))
    f.Key.name code.function (code.unfolded 𝓤 𝓛.H 𝓜 𝓡 wired)
    (λ κs. (rawptr_vals, (uint_vals w64, (uint_vals w64, tt)))) (λ κs. (rawptr_Tells, (uint_Tells w64, (uint_Tells w64, tt)))) (λ κs qs bounds a h are.
    let n = a.1.0 in let at = a.1.1.0 in let κ = h.lifetime in let q = h.share in
    let y : Ptr → W.Ghost = λ p. ((κs, qs, bounds, (p, a.1), (rawptr_vals p, (vint w64 n ∷ [], (vint w64 at ∷ [], tt)))), h) in
    let G = triple_of 𝓛 g.signature (g.spec 𝓛 𝓜.mem 𝓡.returns) in
    qed 𝓛 ((‵ ftrue ⊛ ‵ (owns (types_at f.signature.params κs) a (y a.0).0.4)) ∷ ‵ (seen_at a.0 h) ∷ []) ∵
    split ! $ drop ! $ fsplit ! $ drop ! $ move ! (1 ∷ []) $
    -- [the lexer; the numbers]
    in_a_block ! a.0 (λ p. seen_at p h) (none_at_null 𝓛 h) (λ b o e.
    regoal ! (λ p. prop (WpFn 𝓤 𝓛.H 𝓣.C 𝓣.Λ code.function (rawptr_vals p ++ ((vint w64 n ∷ []) ++ (vint w64 at ∷ []))) (W.post (y p)))) e refl $
    use1 𝓛 ((‵ ((ShrRef (named 0) κ the_row).own_val (seen h b o) (vptr b o ∷ [])) ⊛ ‵ (flft κ q)) ⊛ ‵ (lent_at the_row (block_ptr b o) h.held κ)) (lent_out 𝓛 h b o) $ split ! $ split ! $
    -- [the `&`; its token; the `&` again; the numbers]
    enter ! _ _ _ _ _ $ alloc_all ! (λ l. pass_all ! refl ((tt, tt), ((tt, record { fits = are.1.0.1 }), ((tt, record { fits = are.1.1.0.1 }), tt))) $
    sets ! (of_opd ! (get ! refl)) refl (tt, tt) $ sets ! (addr ! (through ! refl (stop !))) refl (tt, tt) $
    let z : G.Ghost = (((κ, tt), (q, tt), tt, (seen h b o, a.1), (vptr b o ∷ [], (vint w64 n ∷ [], (vint w64 at ∷ [], tt)))), tt) in
    move ! (0 ∷ 3 ∷ []) $ fjoin ! $ nothing ! $ move ! (2 ∷ 0 ∷ []) $ join ! $ join ! $ nothing ! $ move ! (1 ∷ 0 ∷ []) $ use2 𝓛 (raw (G.pre z)) (id⊢ 𝓤 _) $
    calls_at ! (framed 𝓤 𝓛.H 𝓜 𝓣) G (met 𝓤 𝓛 𝓜 𝓡 (code.calls-bajofeki_c::modes::action_of 𝓡.env wired)) z
    (and_then ! (get ! refl) (and_then ! (get ! refl) (and_then ! (get ! refl) (no_more !)))) (λ v.
    use1 𝓛 (later (some (λ (r : Action). ((‵ (flft κ q) ⊛ ‵ ftrue) ⊛ ‵ (action_row.the_row.own_val r (v ∷ []))) ⊛
    some (λ (ws : Unit {0} × (Unit {0} × (Unit {0} × Unit {0}))). ‵ (lasts g.ended z.0.0 z.0.3 ws) ⊛ raw (fact 𝓤 (r ≡ action_at h.held n at)))))) (id⊢ 𝓤 _) $
    await ! tt $ pick ! (λ r. split ! $ split ! $ split ! $ move ! (4 ∷ 0 ∷ []) $ fjoin ! $
    -- [the lexer; nothing; the result; what the callee says]
    move ! (2 ∷ []) $ peeks ! action_row.the_row (Is action_row.the_row) (shows 𝓛 action_row.the_row) r (v ∷ []) (λ is.
    lands_as ! refl refl ((action_laws.the_row_laws.lawful 𝓛).typed r (v ∷ []) is).0 $
    move ! (3 ∷ []) $ pick ! (λ ws. split ! $ drop ! $ heard ! (r ≡ action_at h.held n at) (λ told.
    returns ! (look_at ! 0 refl) $ free_all ! refl $ move ! (2 ∷ []) $ drop ! $
    suffices ! _ (ends_at 𝓛 f.ended stayed c (y (block_ptr b o)) v r (tt, (tt, (tt, tt))) (tt, (tt, (tt, tt)))) $
    nothing ! $ nothing ! $ join ! $ nothing ! $ join ! $ nothing ! $ join ! $ nothing ! $ group ! 3 $ frame ! $ says ! told $ done !))))))))
