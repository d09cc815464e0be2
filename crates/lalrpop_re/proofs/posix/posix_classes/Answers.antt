use Rattle.std.proofs.Common.{◌||◌, refl}
use Rattle.std.specs.Char.{is_ascii, is_ascii_alphanumeric, is_ascii_alphabetic, is_ascii_control, is_ascii_digit, is_ascii_graphic, is_ascii_lowercase, is_ascii_punctuation, is_ascii_uppercase, is_ascii_hexdigit}
use Rattle.std.specs.Int.{is_in_range}
use Rattle.lalrpop_re.specs.CharacterSet.{is_one_of}
use Rattle.lalrpop_re.proofs.PosixLaws.{alnum, alpha, ascii, blank, cntrl, digit, graph, lower, print, punct, space, upper, word, xdigit}
use Rattle.lalrpop_re.proofs.posix.posix_classes.Goals as goal

pub returns : goal.returns
returns c name = (
  λ h. (is_ascii_alphanumeric, rw h refl, refl, λ k _. alnum k),
  λ h0. (
    λ h. (is_ascii_alphabetic, rw (h0, h) refl, refl, λ k _. alpha k),
    λ h1. (
      λ h. (is_ascii, rw (h0, h1, h) refl, refl, λ k _. ascii k),
      λ h2. (
        λ h. (is_one_of "\t ", rw (h0, h1, h2, h) refl, refl, λ k _. blank k),
        λ h3. (
          λ h. (is_ascii_control, rw (h0, h1, h2, h3, h) refl, refl, λ k _. cntrl k),
          λ h4. (
            λ h. (is_ascii_digit, rw (h0, h1, h2, h3, h4, h) refl, refl, λ k _. digit k),
            λ h5. (
              λ h. (is_ascii_graphic, rw (h0, h1, h2, h3, h4, h5, h) refl, refl, λ k _. graph k),
              λ h6. (
                λ h. (is_ascii_lowercase, rw (h0, h1, h2, h3, h4, h5, h6, h) refl, refl, λ k _. lower k),
                λ h7. (
                  λ h. (is_in_range 0x20 0x7E, rw (h0, h1, h2, h3, h4, h5, h6, h7, h) refl, refl, λ k _. print k),
                  λ h8. (
                    λ h. (is_ascii_punctuation, rw (h0, h1, h2, h3, h4, h5, h6, h7, h8, h) refl, refl, λ k _. punct k),
                    λ h9. (
                      λ h. (λ c. is_in_range 9 13 c || is_one_of " " c, rw (h0, h1, h2, h3, h4, h5, h6, h7, h8, h9, h) refl, refl, λ k _. space k),
                      λ h10. (
                        λ h. (is_ascii_uppercase, rw (h0, h1, h2, h3, h4, h5, h6, h7, h8, h9, h10, h) refl, refl, λ k _. upper k),
                        λ h11. (
                          λ h. (λ c. is_ascii_alphanumeric c || is_one_of "_" c, rw (h0, h1, h2, h3, h4, h5, h6, h7, h8, h9, h10, h11, h) refl, refl, λ k _. word k),
                          λ h12. (
                            λ h. (is_ascii_hexdigit, rw (h0, h1, h2, h3, h4, h5, h6, h7, h8, h9, h10, h11, h12, h) refl, refl, λ k _. xdigit k),
                            λ h13.
                                rw (h0, h1, h2, h3, h4, h5, h6, h7, h8, h9, h10, h11, h12, h13) refl,
                          ),
                        ),
                      ),
                    ),
                  ),
                ),
              ),
            ),
          ),
        ),
      ),
    ),
  ),
)
