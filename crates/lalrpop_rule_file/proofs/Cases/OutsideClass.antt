-- Cases of specs/OutsideClass.antt.
use Rattle.std.proofs.Common.{◌≡◌, ℕ, List, [], codes, refl, arith}
use Rattle.lalrpop_rule_file.specs.OutsideClass.{BeginsOne, HasClass, after_one, after_opening, classes, here, further}

alpha : BeginsOne classes (codes "[:alpha:]+")
alpha = (codes "[:alpha:]", codes "+", ((1, omega arith, refl), refl))

at_the_front : HasClass 0 (codes "[:alpha:]+")
at_the_front = here alpha

-- past a bracket and an escape
past_others : HasClass 0 (codes "[a]\\[[:alpha:]+")
past_others = further (further (further (further (here alpha))))

-- a `]` that begins a bracket doesn't close it, and an escape is no bracket
first_is_no_end : after_opening (codes "][:alpha:]]") ≡ codes "[:alpha:]]"
first_is_no_end = refl

first_is_no_end_of_a_complement : after_opening (codes "^]a]") ≡ codes "a]"
first_is_no_end_of_a_complement = refl

escape_opens_none : after_one 0 92 (codes "[:alpha:]") ≡ (0, codes ":alpha:]")
escape_opens_none = refl

none_to_close : after_one 0 93 (codes "a") ≡ (0, codes "a")
none_to_close = refl

in_a_bracket : after_one 1 91 (codes ":alpha:]]") ≡ (2, codes ":alpha:]]")
in_a_bracket = refl

-- in a bracket there is none: what is left gets shorter, until nothing is
in_nothing : (depth : ℕ) (text : List ℕ) → text ≡ [] → ¬ HasClass depth text
in_nothing depth text none (here begins) = absurd (cc)
in_nothing depth text none (further has) = absurd (cc)

inside_one : ¬ HasClass 1 (codes "[:alpha:]]")
inside_one (further (further (further (further (further (further (further (further (further (further has)))))))))) = in_nothing 0 [] refl has
