-- The document is lent for a lifetime that is made for the call; the handle, the range and the bytes are passed on.
use Rattle.bajofeki_c.proofs.Walking.{ℕ, w64, usize, uint_vals, uint_Tells, [], ◌∷◌, refl, proved, full_share, id⊢, Lft, ftrue, flft, flent, fsep, fex, named, vptr, fact, tables, ‵, raw, ◌⊛◌, some, later, prop, ◌$◌, ◌∵◌, !, qed, done, move, drop, use1, use2, use3, split, fsplit, join, fjoin, fpack, pick, await, regoal, suffices, group, enter, of_opd, addr, stop, no_more, and_then, returns, alloc_all, pass_all, free_all, look_at, get, through, sets, lands_as, lft_new, u8, yes, Is, shows, Ptr, RawPtr, block_ptr, in_a_block, rawptr_vals, rawptr_Tells, MutRef, MutBor, plain, nothing, heard, peeks, calls_at, lasts, triple_of, Stays, walk_of, stay_dropped, Goes-dropped, ends_at, framed, WpFn}
use Rattle.std.proofs.Common.{◌++◌}
use denote.RattleType.{owns}
use denote.Signature.{types_at}
use denote.Builtin.{SliceRefOf}
use denote.Lend.{lends_ref, ref_back}
use denote.Memory.{mem}
use denote.Slice.{shr_slice_vals, shr_slice_Tells, shr_slice_Lawful}
use types.SemTy.{Body}
use Rattle.std.specs.contracts.alloc.Global as heap
use Rattle.std.proofs.alloc.Global.TheLaws as heap_laws
use Rattle.std_heap.proofs.Handle.{heap_val, heap_Tells}
use base.Share
use base.Fml.{fdead}
use borrow.Within.Token.{Rest}
use contract.BorrowLft.{meet_⊑_right}
use Rattle.bajofeki_c.proofs.Lives.{over, within}
use Rattle.bajofeki_c.specs.Lent.{document_at, document_lies_at}
use Rattle.bajofeki_c.specs.contracts.document.Document as document
use Rattle.bajofeki_c.specs.contracts.document.Edit as edit
use Rattle.bajofeki_c.specs.declared.document.Document.{Document}
use Rattle.bajofeki_c.specs.declared.document.Edit.{Edit}
use Rattle.bajofeki_c.specs.Document.{IsEdited}
use Rattle.bajofeki_c.proofs.document.Edit.TheLaws as edit_laws
use Rattle.bajofeki_c.specs.contracts.bajofeki_edit as f
use Rattle.bajofeki_c.proofs.bajofeki_edit.Statement.{statement}
use Rattle.bajofeki_c.proofs.bajofeki_edit.Code as code
use Rattle.bajofeki_c.specs.contracts.document.edit_document as g
use Rattle.bajofeki_c.proofs.document.edit_document.Met.{met}

abbrev stayed : Stays f.ended.signature.params f.ended.kept
stayed = (stay_dropped _ yes, (stay_dropped _ yes, (stay_dropped _ yes, (stay_dropped _ yes, (stay_dropped _ yes, tt)))))

pub bajofeki_edit_spec : {M : Type 1} → statement M
bajofeki_edit_spec 𝓤 𝓛 𝓜 𝓡 wired =
    let c = f.clauses 𝓛 𝓜.mem 𝓡.returns in let W = walk_of 𝓛 f.ended stayed c in let 𝓣 = tables 𝓤 𝓛.H 𝓜 𝓡 𝓡.env in
    let goes = Goes-dropped 𝓛 1 (plain (λ _. usize)) yes (λ κs x w. refl) in
    proved 𝓛 f.ended stayed c 𝓜 𝓡 (
      Goes-dropped 𝓛 1 (plain (λ _. RawPtr)) yes (λ κs x w. refl),
      (
        Goes-dropped 𝓛 1 (plain (λ _. heap.the_row)) yes (λ κs x w. refl),
        (goes, (goes, (Goes-dropped 𝓛 1 (SliceRefOf (0 ∷ []) tt (plain (λ _. u8)) (λ κs. tt)) yes (λ κs x w. refl), tt))),
      ),
    )
    f.Key.name code.function (code.unfolded 𝓤 𝓛.H 𝓜 𝓡 wired)
    (λ κs. (rawptr_vals, ((λ _. heap_val ∷ []), (uint_vals w64, (uint_vals w64, (shr_slice_vals, tt))))))
    (λ κs. (rawptr_Tells, (heap_Tells, (uint_Tells w64, (uint_Tells w64, (shr_slice_Tells (named 0) κs.0 u8, tt)))))) (λ κs qs bounds a h are.
    let from = a.1.1.0 in let to = a.1.1.1.0 in let s = a.1.1.1.1.0 in let κ = h.lifetime in let q = h.share in
    let row = document.the_row (record { mir = named 1; lft = κ }) in
    let vals = heap_val ∷ (uint_vals w64 from ++ (uint_vals w64 to ++ shr_slice_vals s)) in
    let y : Ptr → W.Ghost = λ p. ((κs, qs, bounds, (p, a.1), (rawptr_vals p, (heap_val ∷ [], (uint_vals w64 from, (uint_vals w64 to, (shr_slice_vals s, tt)))))), h) in
    let G = triple_of 𝓛 g.signature (g.spec 𝓛 𝓜.mem 𝓡.returns) in
    let toks = ‵ (flft κs.0 qs.0) ⊛ ‵ ftrue in
    qed 𝓛 ((toks ⊛ ‵ (owns (types_at f.signature.params κs) a (y a.0).0.4)) ∷ ‵ (document_at a.0 h) ∷ []) ∵
    split ! $ move ! (1 ∷ []) $ fsplit ! $ drop ! $ move ! (2 ∷ []) $ fsplit ! $
    -- [the document; the token of its lexer; the handle, the range and the bytes; the tokens]
    in_a_block ! a.0 (λ p. document_lies_at p κ h.document) (id⊢ 𝓤 _) (λ b o e.
    regoal ! (λ p. prop (WpFn 𝓤 𝓛.H 𝓣.C 𝓣.Λ code.function (rawptr_vals p ++ vals) (W.post (y p)))) e refl $
    enter ! _ _ _ _ _ $ alloc_all ! (λ l. pass_all ! refl (
      (tt, tt),
      (
        ((heap_laws.the_row_laws.lawful 𝓛).typed a.1.0 _ are.1.0).0,
        (
          (tt, record { fits = are.1.1.0.1 }),
          ((tt, record { fits = are.1.1.1.0.1 }), (((shr_slice_Lawful 𝓛 (named 0) κs.0 u8).typed s _ are.1.1.1.1.0).0, tt)),
        ),
      ),
    ) $
    sets ! (of_opd ! (get ! refl)) refl (tt, tt) $ sets ! (addr ! (through ! refl (stop !))) refl (tt, tt) $
    lft_new ! tt (λ α. let ν : Lft = α ∷ κ in move ! (0 ∷ 2 ∷ []) $
    use2 𝓛 (‵ (flft ν (Share.right q)) ⊛ ‵ (flft κ (Share.left q)) ⊛ raw (Rest 𝓛 α (Share.right q))) (within 𝓛 α κ q) $ split ! $ move ! (1 ∷ []) $ split ! $ move ! (3 ∷ []) $
    use1 𝓛 (later (some (λ (γ : ℕ). ‵ ((MutRef (named 0) ν row).own_val (record { ref_ptr = (b, o); ghost_name = γ; now = h.document }) (vptr b o ∷ []))
    ⊛ ‵ (flent ν (Body (mem row) b o γ)))))
    (lends_ref 𝓛 row (named 0) ν h.document b o) $ await ! tt $ pick ! (λ γ. split ! $
    -- [the `&mut`; the right to the document; the lexer's token; the way back; the call's token; the handle, the range and the bytes; the tokens]
    let lent : MutBor Document = record { ref_ptr = (b, o); ghost_name = γ; now = h.document } in
    let z : G.Ghost = (((ν, (κ, κs)), (Share.right q, (Share.left q, qs)), (meet_⊑_right (α ∷ []) κ, tt), (lent, a.1), (vptr b o ∷ [], (heap_val ∷ [], (uint_vals w64 from, (uint_vals w64 to, (shr_slice_vals s, tt)))))), tt) in
    move ! (0 ∷ 5 ∷ []) $ fjoin ! $ move ! (2 ∷ 5 ∷ []) $ join ! $ move ! (4 ∷ 0 ∷ []) $ join ! $ join ! $
    nothing ! $ move ! (1 ∷ 0 ∷ []) $ use2 𝓛 (raw (G.pre z)) (id⊢ 𝓤 _) $
    calls_at ! (framed 𝓤 𝓛.H 𝓜 𝓣) G (met 𝓤 𝓛 𝓜 𝓡 (code.calls-bajofeki_c::document::edit_document 𝓡.env wired)) z
    (and_then ! (get ! refl) (and_then ! (get ! refl) (and_then ! (get ! refl) (and_then ! (get ! refl) (and_then ! (get ! refl) (no_more !)))))) (λ v.
    use1 𝓛 (later (some (λ (r : Edit). ((‵ (flft ν (Share.right q)) ⊛ ‵ (flft κ (Share.left q)) ⊛ toks) ⊛ ‵ (edit.the_row.own_val r (v ∷ []))) ⊛
    some (λ (ws : Document × (Unit {0} × (Unit {0} × (Unit {0} × (Unit {0} × Unit {0}))))). ‵ (lasts g.ended z.0.0 z.0.3 ws) ⊛ raw (fact 𝓤 (IsEdited h.document from to s.now r ws.0)))))) (id⊢ 𝓤 _) $
    await ! tt $ pick ! (λ r. split ! $ split ! $ split ! $ move ! (1 ∷ []) $ split ! $ move ! (2 ∷ 0 ∷ 6 ∷ []) $
    use3 𝓛 (later (‵ (fdead ν) ⊛ ‵ (flft κ q))) (over 𝓛 α κ q) $ await ! tt $ split ! $ move ! (1 ∷ 2 ∷ []) $
    -- [the token of the lexer; the tokens; the document's lifetime is over; the result; what the callee says; the right to the document]
    move ! (3 ∷ []) $ peeks ! edit.the_row (Is edit.the_row) (shows 𝓛 edit.the_row) r (v ∷ []) (λ is.
    lands_as ! refl refl ((edit_laws.the_row_laws.lawful 𝓛).typed r (v ∷ []) is).0 $
    move ! (4 ∷ []) $ pick ! (λ ws. split ! $ move ! (1 ∷ []) $ heard ! (IsEdited h.document from to s.now r ws.0) (λ edited.
    fsplit ! $ fsplit ! $ move ! (1 ∷ 2 ∷ []) $ drop ! $ drop ! $
    -- [the document's last value; the result; the token of the lexer; the tokens; the document's lifetime is over; the right to the document]
    move ! (4 ∷ 5 ∷ 0 ∷ []) $ use3 𝓛 (later (‵ (document_lies_at (block_ptr b o) κ ws.0))) (ref_back 𝓛 row ν γ ws.0 b o) $ await ! tt $
    -- [the document; the result; the token of the lexer; the tokens]
    returns ! (look_at ! 0 refl) $ free_all ! refl $
    nothing ! $ fpack ! (IsEdited h.document from to s.now r ws.0) (λ _. ftrue) edited $ move ! (1 ∷ 0 ∷ []) $ fjoin ! $
    fpack ! Document (λ d. fsep (document_lies_at (block_ptr b o) κ d) (fex (IsEdited h.document from to s.now r d) (λ _. ftrue))) ws.0 $
    move ! (0 ∷ 2 ∷ []) $ fjoin ! $ move ! (1 ∷ 0 ∷ []) $
    suffices ! _ (ends_at 𝓛 f.ended stayed c (y (block_ptr b o)) v r (tt, (tt, (tt, (tt, (tt, tt))))) (tt, (tt, (tt, (tt, (tt, tt)))))) $
    nothing ! $ nothing ! $ join ! $ nothing ! $ join ! $ nothing ! $ join ! $ nothing ! $ join ! $ nothing ! $ join ! $ move ! (3 ∷ []) $ group ! 3 $ done !))))))))))
