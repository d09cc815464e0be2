-- A lexer that is seen is lent on, and seen still.
use Rattle.bajofeki_c.proofs.Walking.{List, [], ◌∷◌, ℕ, refl, Val, vptr, named, flft, ent, ‵, ◌⊛◌, ◌$◌, ◌∵◌, !, qed, done, move, drop, keep, use1, split, join, fsplit, fjoin, feq_i, ShrRef, block_ptr}
use seplogic.Ra.Ura.{Ura}
use base.Logic.{sep, never}
use types.Logic.{Logic, sem}
use denote.Bor.{Bor}
use denote.Opens.{hide}
use denote.RawPtr.{null_ptr}
use denote.SharingLaws.{contraction}
use denote.Struct.Lending.{lent_at, lent_at_shr_laws}
use Rattle.bajofeki_c.specs.Room.{View, seen_at}
use Rattle.bajofeki_c.specs.contracts.held.Held.{the_row}
use Rattle.bajofeki_c.specs.declared.held.Held.{Held}
use Rattle.bajofeki_c.proofs.held.Held.TheLaws.{the_row_laws}

-- the `&` of a view
abbrev pub seen : View → ℕ → ℕ → Bor Held
seen v b o = record { ref_ptr = (b, o); now = v.held }

module _ {M : Type 1} {𝓤 : Ura M} (𝓛 : Logic 𝓤) where
  pub none_at_null : (v : View) → ent 𝓤 (sem 𝓛 (seen_at null_ptr v)) (never 𝓤)
  none_at_null v = qed 𝓛 (‵ (seen_at null_ptr v) ∷ []) ∵ fsplit ! $ fsplit ! $ keep ! (0 ∷ []) $ done !

  pub lent_out : (v : View) (b o : ℕ) → ent 𝓤 (sem 𝓛 (seen_at (block_ptr b o) v))
      (sep 𝓤 (sep 𝓤 (sem 𝓛 ((ShrRef (named 0) v.lifetime the_row).own_val (seen v b o) (vptr b o ∷ []))) (sem 𝓛 (flft v.lifetime v.share))) (sem 𝓛 (lent_at the_row (block_ptr b o) v.held v.lifetime)))
  lent_out v b o =
      let lent = lent_at the_row (block_ptr b o) v.held in
      qed 𝓛 (‵ (seen_at (block_ptr b o) v) ∷ []) ∵ fsplit ! $ use1 𝓛 (‵ (lent v.lifetime) ⊛ ‵ (lent v.lifetime))
      (contraction 𝓛 lent (lent_at_shr_laws the_row the_row_laws.shr_laws (block_ptr b o) v.held) v.lifetime) $
      split ! $ fsplit ! $ drop ! $ hide ! $ feq_i ! (List Val) (vptr b o ∷ []) (vptr b o ∷ []) refl $ fjoin ! $
      move ! (0 ∷ 2 ∷ 1 ∷ []) $ join ! $ done !
