-- The table of POSIX classes finds what the definition finds.
use Rattle.std.proofs.Common.{◌≡◌, ℕ, true, ◌||◌, List, [], ◌∷◌, Option, None, refl, arith, bytes_eq, eq-eqb, ◌+◌, ◌<◌, ◌≤◌, length, get_or, drop, subst}
use Rattle.std.specs.Char.{is_ascii, is_ascii_alphanumeric, is_ascii_alphabetic, is_ascii_control, is_ascii_digit, is_ascii_graphic, is_ascii_lowercase, is_ascii_punctuation, is_ascii_uppercase, is_ascii_hexdigit}
use Rattle.std.specs.Int.{is_in_range}
use Rattle.std.proofs.lemmas.Bool.{and_from}
use Rattle.std.proofs.lemmas.Bool.Decides.{nat_tests}
use Rattle.std.proofs.lemmas.List.{drop_all, drop_more}
use Rattle.unicode.specs.Rows.{in_ranges}
use Rattle.lalrpop_re.specs.declared.posix.PosixClass.{PosixClass}
use Rattle.lalrpop_re.specs.CharacterSet.{is_one_of, Set}
use Rattle.lalrpop_re.specs.Internal.Sets.{IsFound}

pub same_bytes : (xs : List ℕ) → bytes_eq xs xs ≡ true
same_bytes [] = refl
same_bytes (x ∷ xs) = and_from _ _ (eq-eqb x x refl) (same_bytes xs)

pub at_row : (name : List ℕ) (ps : List PosixClass) (i : ℕ) (d : PosixClass) (found : Option Set) → i < length ps → IsFound name (drop i ps) found → IsFound name (get_or ps i d ∷ drop (i + 1) ps) found
at_row name ps i d found h k = subst (λ l. IsFound name l found) (drop_more ps i d h) k

pub no_row : (name : List ℕ) (ps : List PosixClass) (i : ℕ) (found : Option Set) → length ps ≤ i → IsFound name (drop i ps) found → found ≡ None
no_row name ps i found h k = subst (λ l. IsFound name l found) (drop_all i ps h) k

pub alnum : (c : ℕ) → in_ranges ((48, 57) ∷ (65, 90) ∷ (97, 122) ∷ []) c ≡ is_ascii_alphanumeric c
unfolding in_ranges
alnum c = grind (arith, nat_tests)

pub alpha : (c : ℕ) → in_ranges ((65, 90) ∷ (97, 122) ∷ []) c ≡ is_ascii_alphabetic c
unfolding in_ranges
alpha c = grind (arith, nat_tests)

pub ascii : (c : ℕ) → in_ranges ((0, 127) ∷ []) c ≡ is_ascii c
unfolding in_ranges
ascii c = grind (arith, nat_tests)

pub blank : (c : ℕ) → in_ranges ((9, 9) ∷ (32, 32) ∷ []) c ≡ (is_one_of "\t ") c
unfolding in_ranges
blank c = grind (arith, nat_tests)

pub cntrl : (c : ℕ) → in_ranges ((0, 31) ∷ (127, 127) ∷ []) c ≡ is_ascii_control c
unfolding in_ranges
cntrl c = grind (arith, nat_tests)

pub digit : (c : ℕ) → in_ranges ((48, 57) ∷ []) c ≡ is_ascii_digit c
unfolding in_ranges
digit c = grind (arith, nat_tests)

pub graph : (c : ℕ) → in_ranges ((33, 126) ∷ []) c ≡ is_ascii_graphic c
unfolding in_ranges
graph c = grind (arith, nat_tests)

pub lower : (c : ℕ) → in_ranges ((97, 122) ∷ []) c ≡ is_ascii_lowercase c
unfolding in_ranges
lower c = grind (arith, nat_tests)

pub print : (c : ℕ) → in_ranges ((32, 126) ∷ []) c ≡ (is_in_range 0x20 0x7E) c
unfolding in_ranges
print c = grind (arith, nat_tests)

pub punct : (c : ℕ) → in_ranges ((33, 47) ∷ (58, 64) ∷ (91, 96) ∷ (123, 126) ∷ []) c ≡ is_ascii_punctuation c
unfolding in_ranges
punct c = grind (arith, nat_tests)

pub space : (c : ℕ) → in_ranges ((9, 13) ∷ (32, 32) ∷ []) c ≡ (is_in_range 9 13 c || is_one_of " " c)
unfolding in_ranges
space c = grind (arith, nat_tests)

pub upper : (c : ℕ) → in_ranges ((65, 90) ∷ []) c ≡ is_ascii_uppercase c
unfolding in_ranges
upper c = grind (arith, nat_tests)

pub word : (c : ℕ) → in_ranges ((48, 57) ∷ (65, 90) ∷ (95, 95) ∷ (97, 122) ∷ []) c ≡ (is_ascii_alphanumeric c || is_one_of "_" c)
unfolding in_ranges
word c = grind (arith, nat_tests)

pub xdigit : (c : ℕ) → in_ranges ((48, 57) ∷ (65, 70) ∷ (97, 102) ∷ []) c ≡ is_ascii_hexdigit c
unfolding in_ranges
xdigit c = grind (arith, nat_tests)
