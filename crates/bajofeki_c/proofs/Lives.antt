-- A lifetime that is made for a call, within the one for which a lexer is lent: a ∷ κ, at a part of the share at which κ's token is held.
use Rattle.bajofeki_c.proofs.Walking.{[], ◌∷◌, ℕ, Lft, named, full_share, flft, ent, ‵, raw, ◌⊛◌, later, ◌$◌, ◌∵◌, !, qed, done, move, use1, use2, split, await}
use seplogic.Ra.Ura.{Ura}
use base.Logic.{sep}
use base.Share
use base.Fml.{Share, fdead}
use borrow.Within.Token.{Rest, within_token, within_end}
use contract.BorrowLft.{◌⊑◌, ⊑_meet, ⊑_static}
use types.Kit.{updating, now}
use types.Logic.{Logic, sem}
use Rattle.bajofeki_c.specs.contracts.document.Document as document

-- what a document names lives as long as its lexer is lent
pub lives_within : (w κ : Lft) → w ⊑ κ → w ⊑ (document.the_row (record { mir = named 1; lft = κ })).lives
lives_within w κ r =
    let s = ⊑_static w in
    let p = ⊑_meet w _ _ (⊑_meet w _ _ (⊑_meet w _ _ r s) s) s in
    ⊑_meet w _ _ (⊑_meet w _ _ p (⊑_meet w _ _ p s)) s

module _ {M : Type 1} {𝓤 : Ura M} (𝓛 : Logic 𝓤) where
  -- its token, what is left of κ's, and the way back
  pub within : (a : ℕ) (κ : Lft) (q : Share) → ent 𝓤 (sep 𝓤 (sem 𝓛 (flft (a ∷ []) full_share)) (sem 𝓛 (flft κ q)))
      (sep 𝓤 (sem 𝓛 (flft (a ∷ κ) (Share.right q))) (sep 𝓤 (sem 𝓛 (flft κ (Share.left q))) (Rest 𝓛 a (Share.right q))))
  within a κ q = qed 𝓛 (‵ (flft (a ∷ []) full_share) ∷ ‵ (flft κ q) ∷ []) ∵ move ! (1 ∷ []) $
      use1 𝓛 (‵ (flft κ (Share.left q)) ⊛ ‵ (flft κ (Share.right q))) (𝓛.lfts.lft_split κ q) $ split ! $ move ! (2 ∷ 1 ∷ []) $
      use2 𝓛 (‵ (flft (a ∷ κ) (Share.right q)) ⊛ raw (Rest 𝓛 a (Share.right q))) (within_token 𝓛 a κ (Share.right q)) $ split ! $ move ! (0 ∷ 2 ∷ []) $ done !

  -- it is over, and κ's token is whole again
  pub over : (a : ℕ) (κ : Lft) (q : Share) → ent 𝓤 (sep 𝓤 (sem 𝓛 (flft (a ∷ κ) (Share.right q))) (sep 𝓤 (sem 𝓛 (flft κ (Share.left q))) (Rest 𝓛 a (Share.right q))))
      (𝓛.H.⇛ (sep 𝓤 (sem 𝓛 (fdead (a ∷ κ))) (sem 𝓛 (flft κ q))))
  over a κ q = qed 𝓛 (‵ (flft (a ∷ κ) (Share.right q)) ∷ ‵ (flft κ (Share.left q)) ∷ raw (Rest 𝓛 a (Share.right q)) ∷ []) ∵ updating ! $ move ! (0 ∷ 2 ∷ []) $
      use2 𝓛 (later (‵ (fdead (a ∷ κ)) ⊛ ‵ (flft κ (Share.right q)))) (within_end 𝓛 a κ (Share.right q)) $ await ! tt $ split ! $ move ! (2 ∷ 1 ∷ []) $
      use2 𝓛 (‵ (flft κ q)) (𝓛.lfts.lft_join κ q) $ move ! (1 ∷ []) $ now ! $ done !
