-- What is written for pieces, part by part, and what is written when an error occurs.
use Rattle.std.proofs.Common.{◌≡◌, ℕ, List, [], ◌++◌, sym, ap, subst, ◌∙◌, append_assoc}
use Rattle.std.proofs.lemmas.List.{append-nil}
use Rattle.lexdfa_lib.specs.declared.error.RunError.{RunError}
use Rattle.lexdfa_lib.specs.declared.error.RunError.TheVariants.{OutOfMemory}
use Rattle.pieces_lib.specs.Console.{Console, Writes, WritesPart}
use Rattle.pieces_lib.specs.Internal.CutTexts.{IsSent}
use Rattle.pieces_lib.proofs.AnswerLaws.{writes_again, writes_front, writes_part}

module _ (bytes waiting : List ℕ) (a b c : Console) (is : IsSent bytes waiting a b) where
  -- more is to be written, and a part of what waits is passed on
  pub sent_more : (piece passed now more : List ℕ) → more ≡ bytes ++ piece → Writes b passed c → waiting ++ piece ≡ passed ++ now → IsSent more now a c
  sent_more piece passed now more grows h split = record {
    sent = is.sent ++ passed;
    writes = writes_again a b c is.sent passed is.writes h;
    all =
        append_assoc is.sent passed now ∙ ap (λ (l : List ℕ). is.sent ++ l) (sym split) ∙ sym (append_assoc is.sent waiting piece)
        ∙ ap (λ (l : List ℕ). l ++ piece) is.all ∙ sym grows;
  }

  -- all that waits is passed on
  pub sent_whole : Writes b waiting c → IsSent bytes [] a c
  sent_whole h = record {
    sent = is.sent ++ waiting;
    writes = writes_again a b c is.sent waiting is.writes h;
    all = append-nil (is.sent ++ waiting) ∙ is.all;
  }

  -- a prefix of what waits, and of more, is passed on
  pub part_more : (piece more : List ℕ) (error : RunError) → more ≡ bytes ++ piece → WritesPart b (waiting ++ piece) error c → WritesPart a more error c
  part_more piece more error grows h =
      let all : is.sent ++ (waiting ++ piece) ≡ more = sym (append_assoc is.sent waiting piece) ∙ ap (λ (l : List ℕ). l ++ piece) is.all ∙ sym grows in
      subst (λ (l : List ℕ). WritesPart a l error c) all (writes_part a b c is.sent (waiting ++ piece) error is.writes h)

  -- of what waits alone
  pub part_waiting : (error : RunError) → WritesPart b waiting error c → WritesPart a bytes error c
  part_waiting error h = subst (λ (l : List ℕ). WritesPart a l error c) is.all (writes_part a b c is.sent waiting error is.writes h)

-- nothing of it is, since memory is refused
pub part_so_far : (bytes waiting : List ℕ) (a b : Console) (error : RunError) → error ≡ OutOfMemory → IsSent bytes waiting a b → WritesPart a bytes error b
part_so_far bytes waiting a b error refused is =
    subst (λ (e : RunError). WritesPart a bytes e b) (sym refused)
    (subst (λ (l : List ℕ). WritesPart a l OutOfMemory b) is.all (writes_front a b is.sent waiting is.writes))

-- all was passed on
pub all_sent : (bytes : List ℕ) (a b : Console) → IsSent bytes [] a b → Writes a bytes b
all_sent bytes a b is = subst (λ (l : List ℕ). Writes a l b) (sym (append-nil is.sent) ∙ is.all) is.writes

-- the same bytes
pub sent_same : (bytes more waiting : List ℕ) (a b : Console) → bytes ≡ more → IsSent bytes waiting a b → IsSent more waiting a b
sent_same bytes more waiting a b same is = record { sent = is.sent; writes = is.writes; all = is.all ∙ same }
