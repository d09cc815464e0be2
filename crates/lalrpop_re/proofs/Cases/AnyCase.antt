-- Cases of specs/AnyCase.antt.
use Rattle.std.proofs.Common.{◌≡◌, inl, [], ◌∷◌, codes, refl, arith}
use Rattle.unicode.proofs.CaseComputing.{ucd_case}
use Rattle.lalrpop_re.specs.CharacterSet.{just}
use Rattle.lalrpop_re.specs.AnyCase.{SameButForCase}
use Rattle.lalrpop_re.proofs.FoldLaws.{fold-is}
use Rattle.lalrpop_re.proofs.Cases.CharacterSet.{other_case_is_folded, other_letter_is_not_folded}
use Rattle.lalrpop_re.proofs.AnyCaseLaws.{fold-self, fold-same}

-- `a` is `A` but for case, and not `b`
letters : SameButForCase (codes "a") (codes "A") × (¬ SameButForCase (codes "a") (codes "b"))
letters = ((other_case_is_folded, tt), λ h. other_letter_is_not_folded h.0)

-- `k` is the sign of the kelvin, U+212A, but for case
kelvin : SameButForCase (codes "k") (0x212A ∷ [])
unfolding ucd_case
kelvin = ((fold-is (just 107) 0x212A (inl (omega arith))).1 (107, inl (omega arith), refl, refl), tt)

-- `ß` is itself, and isn't the two letters `ss`, nor one `s`
sharp_s : SameButForCase (0xDF ∷ []) (0xDF ∷ []) × (¬ SameButForCase (0xDF ∷ []) (codes "ss")) × (¬ SameButForCase (0xDF ∷ []) (codes "s"))
unfolding ucd_case
sharp_s = ((fold-self 0xDF (inl (omega arith)), tt), λ h. h.1, λ h. let e : 0xDF ≡ 115 = fold-same 0xDF 115 h.0 in omega (arith, e))

-- words of another length differ, and the empty word is itself
lengths : SameButForCase [] [] × (¬ SameButForCase (codes "a") []) × (¬ SameButForCase [] (codes "a")) × (¬ SameButForCase (codes "a") (codes "aa"))
lengths = (tt, λ h. h, λ h. h, λ h. h.1)
