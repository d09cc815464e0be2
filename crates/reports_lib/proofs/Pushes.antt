-- What pushes append.
use Rattle.std.proofs.Common.{◌≡◌, ℕ, List, [], ◌∷◌, ◌++◌, ap, ◌∙◌, append_assoc}

pub six_pushed : (s a b c d e f : List ℕ) {s1 s2 s3 s4 s5 s6 : List ℕ} → s1 ≡ s ++ a → s2 ≡ s1 ++ b → s3 ≡ s2 ++ c → s4 ≡ s3 ++ d → s5 ≡ s4 ++ e → s6 ≡ s5 ++ f
    → s6 ≡ s ++ (a ++ (b ++ (c ++ (d ++ (e ++ f)))))
six_pushed s a b c d e f p1 p2 p3 p4 p5 p6 =
    p6 ∙ ap (λ (x : List ℕ). x ++ f) p5 ∙ append_assoc _ e f
    ∙ ap (λ (x : List ℕ). x ++ (e ++ f)) p4 ∙ append_assoc _ d (e ++ f)
    ∙ ap (λ (x : List ℕ). x ++ (d ++ (e ++ f))) p3 ∙ append_assoc _ c (d ++ (e ++ f))
    ∙ ap (λ (x : List ℕ). x ++ (c ++ (d ++ (e ++ f)))) p2 ∙ append_assoc _ b (c ++ (d ++ (e ++ f)))
    ∙ ap (λ (x : List ℕ). x ++ (b ++ (c ++ (d ++ (e ++ f))))) p1 ∙ append_assoc s a (b ++ (c ++ (d ++ (e ++ f))))

-- after the beginning of a message
pub four_pushed : (t p a m b : List ℕ) {s1 s2 s3 s4 : List ℕ} → s1 ≡ t ++ p → s2 ≡ s1 ++ a → s3 ≡ s2 ++ m → s4 ≡ s3 ++ b → s4 ≡ t ++ (p ++ (a ++ (m ++ b)))
four_pushed t p a m b p1 p2 p3 p4 =
    p4 ∙ ap (λ (x : List ℕ). x ++ b) p3 ∙ append_assoc _ m b
    ∙ ap (λ (x : List ℕ). x ++ (m ++ b)) p2 ∙ append_assoc _ a (m ++ b)
    ∙ ap (λ (x : List ℕ). x ++ (a ++ (m ++ b))) p1 ∙ append_assoc t p (a ++ (m ++ b))

-- two numbers, each with a byte after it, and what comes before and after both
pub around_numbers : (front first second rest : List ℕ) (between behind : ℕ)
    → front ++ ((first ++ (between ∷ (second ++ (behind ∷ [])))) ++ rest) ≡ front ++ (first ++ (between ∷ (second ++ (behind ∷ rest))))
around_numbers front first second rest between behind =
    ap (λ (xs : List ℕ). front ++ xs) (append_assoc first (between ∷ (second ++ (behind ∷ []))) rest ∙ ap (λ (xs : List ℕ). first ++ (between ∷ xs)) (append_assoc second (behind ∷ []) rest))
