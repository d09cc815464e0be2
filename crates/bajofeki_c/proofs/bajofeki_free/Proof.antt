-- What lies there is read, given to a function that lets its memory go, and what this gives back is written.
use Rattle.bajofeki_c.proofs.Walking.{[], ◌∷◌, refl, proved, full_share, id⊢, ftrue, fat, fsep, fex, Val, vunit, fact, tables, ‵, raw, ◌⊛◌, some, later, prop, ◌$◌, ◌∵◌, !, qed, done, move, drop, use1, use2, split, join, fjoin, fpack, pick, await, regoal, suffices, group, feq_i, enter, of_opd, unit_lit, load, look, store, assigns, stop, no_more, and_then, returns, alloc_all, pass_all, free_all, look_at, get, through, sets, lands_as, yes, Is, shows, part_at, part_out, part_in, lone, Ptr, RawPtr, block_ptr, lies_at, in_a_block, rawptr_vals, rawptr_Tells, plain, nothing, heard, peeks, calls_at, lasts, on_entry, triple_of, Stays, walk_of, stay_dropped, Goes-dropped, ends_at, framed, WpFn}
use denote.Triple.Clauses.{Lasts}
use Rattle.bajofeki_c.specs.Room.{held_at}
use Rattle.bajofeki_c.specs.Built.{IsFreed}
use Rattle.bajofeki_c.specs.contracts.held.Held.{the_row}
use Rattle.bajofeki_c.specs.declared.held.Held.{Held}
use Rattle.bajofeki_c.proofs.held.Held.TheLaws.{the_row_laws}
use Rattle.bajofeki_c.specs.contracts.bajofeki_free as f
use Rattle.bajofeki_c.proofs.bajofeki_free.Statement.{statement}
use Rattle.bajofeki_c.proofs.bajofeki_free.Code as code
use Rattle.bajofeki_c.specs.contracts.held.let_go as g
use Rattle.bajofeki_c.proofs.held.let_go.Met.{met}

abbrev stayed : Stays f.ended.signature.params f.ended.kept
stayed = (stay_dropped _ yes, tt)

pub bajofeki_free_spec : {M : Type 1} → statement M
bajofeki_free_spec 𝓤 𝓛 𝓜 𝓡 wired =
    let c = f.clauses 𝓛 𝓜.mem 𝓡.returns in let W = walk_of 𝓛 f.ended stayed c in let 𝓣 = tables 𝓤 𝓛.H 𝓜 𝓡 𝓡.env in
    proved 𝓛 f.ended stayed c 𝓜 𝓡 (Goes-dropped 𝓛 0 (plain (λ _. RawPtr)) yes (λ κs x w. refl), tt)
    f.Key.name code.function (code.unfolded 𝓤 𝓛.H 𝓜 𝓡 wired)
    (λ κs. (rawptr_vals, tt)) (λ κs. (rawptr_Tells, tt)) (λ κs qs bounds a h are.
    let y : Ptr → W.Ghost = λ p. ((κs, qs, bounds, (p, tt), (rawptr_vals p, tt)), h) in
    let G = triple_of 𝓛 g.signature (g.spec 𝓛 𝓜.mem 𝓡.returns) in
    qed 𝓛 (raw (on_entry 𝓛 f.signature κs qs a (y a.0).0.4) ∷ ‵ (lies_at the_row full_share a.0 h) ∷ []) ∵ drop ! $
    in_a_block ! a.0 (λ p. lies_at the_row full_share p h) (id⊢ 𝓤 _) (λ b o e.
    regoal ! (λ p. prop (WpFn 𝓤 𝓛.H 𝓣.C 𝓣.Λ code.function (rawptr_vals p) (W.post (y p)))) e refl $
    use1 𝓛 (some (λ (v : Val). ‵ (fat full_share (lone the_row.mir) b o v) ⊛ ‵ (the_row.own_val h (v ∷ [])))) (part_out 𝓛 the_row refl full_share h b o) $ pick ! (λ v. split ! $
    move ! (1 ∷ []) $ peeks ! the_row (Is the_row) (shows 𝓛 the_row) h (v ∷ []) (λ is.
    let good = ((the_row_laws.lawful 𝓛).typed h (v ∷ []) is).0 in
    -- [what is owned; its cell]
    enter ! _ _ _ _ _ $ alloc_all ! (λ l. pass_all ! refl ((tt, tt), tt) $
    sets ! (of_opd ! (get ! refl)) refl (tt, tt) $ sets ! (of_opd ! (get ! refl)) refl (tt, tt) $
    sets ! (of_opd ! (load ! (through ! refl (stop !)) (look ! 1 refl))) refl good $
    let z : G.Ghost = ((tt, tt, tt, (h, tt), (v ∷ [], tt)), tt) in
    nothing ! $ move ! (1 ∷ 0 ∷ []) $ join ! $ nothing ! $ join ! $ nothing ! $ move ! (1 ∷ 0 ∷ []) $ join ! $ use1 𝓛 (raw (G.pre z)) (id⊢ 𝓤 _) $
    calls_at ! (framed 𝓤 𝓛.H 𝓜 𝓣) G (met 𝓤 𝓛 𝓜 𝓡 (code.calls-bajofeki_c::held::let_go 𝓡.env wired)) z
    (and_then ! (get ! refl) (no_more !)) (λ u.
    use1 𝓛 (later (some (λ (r : Held). (‵ ftrue ⊛ ‵ (the_row.own_val r (u ∷ []))) ⊛
    some (λ (ws : Lasts g.ended tt (h, tt)). ‵ (lasts g.ended tt (h, tt) ws) ⊛ raw (fact 𝓤 (IsFreed r)))))) (id⊢ 𝓤 _) $
    await ! tt $ pick ! (λ r. split ! $ split ! $ drop ! $ peeks ! the_row (Is the_row) (shows 𝓛 the_row) r (u ∷ []) (λ is_left.
    let left = ((the_row_laws.lawful 𝓛).typed r (u ∷ []) is_left).0 in
    lands_as ! refl refl left $
    move ! (1 ∷ []) $ pick ! (λ ws. split ! $ drop ! $ heard ! (IsFreed r) (λ freed.
    -- [what is left; the cell]
    move ! (1 ∷ []) $ assigns ! (of_opd ! (get ! refl)) (through ! refl (stop !)) (store ! 0 refl left) $
    sets ! (of_opd ! (unit_lit !)) refl (tt, tt) $
    returns ! (look_at ! 0 refl) $ free_all ! refl $
    use2 𝓛 (‵ (part_at the_row full_share r b o)) (part_in 𝓛 the_row refl full_share r b o u) $
    nothing ! $ fpack ! (IsFreed r) (λ _. ftrue) freed $ move ! (1 ∷ 0 ∷ []) $ fjoin ! $
    fpack ! Held (λ d. fsep (held_at (block_ptr b o) d) (fex (IsFreed d) (λ _. ftrue))) r $
    suffices ! _ (ends_at 𝓛 f.ended stayed c (y (block_ptr b o)) vunit tt (tt, tt) (tt, tt)) $
    feq_i ! _ (vunit ∷ []) _ refl $ nothing ! $ nothing ! $ join ! $ nothing ! $ group ! 3 $ done !))))))))))
