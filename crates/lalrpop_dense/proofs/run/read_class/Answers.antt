use Rattle.std.proofs.Common.{◌≡◌, ◌∷◌, ◌++◌, ◌∙◌, ℕ, List, ◌+◌, ◌*◌, ◌/◌, ◌%◌, ◌<◌, [], length, drop, get_or, sym, ap, arith, add-one, drop-cons, rules, ◌-◌, min}
use Rattle.std.specs.Char.{encode_utf8}
use Rattle.std.proofs.lemmas.List.{get_or_read}
use Rattle.std.proofs.lemmas.Str.{encode_ascii, drop_past_char}
use Rattle.lalrpop_dense.specs.Internal.Table.{class_of, page_of}
use Rattle.lalrpop_dense.proofs.run.read_class.Goals as goal

pub returns-then-first-lt128 : goal.returns-then-first-lt128
returns-then-first-lt128 c =
    let text = c.args.text.now in
    let at = c.args.at.now in
    let t = c.args.layout.now in
    let h = c.requires.classes in
    let f = get_or text at 0 in
    let bytes = c.as_bytes.ensures.value in
    let low : f < 128 = rw bytes at c.if-first-lt128.true in
    let within : at < length text = c.requires.within in
    let one : encode_utf8 f ≡ f ∷ [] = encode_ascii f low in
    let page : page_of t (f / 128) ≡ 0 = (let zero : min (f / 128) (length t.pages.items - 1) ≡ 0 = omega arith in ap (λ (k : ℕ). get_or t.pages.items k 0) zero ∙ h.ascii) in
    let place : page_of t (f / 128) * 128 + f % 128 ≡ f = omega (arith, page) in
    let in_block : f < length t.blocks.items = omega (arith, h.blocks 0 h.pages, h.ascii) in (
      f,
      (
        record {
          split = rw (one, add-one, drop-cons text at 0);
          place = omega (arith, ap length one);
          scalar = omega arith;
        },
        get_or_read t.blocks.items f c.index.result.now in_block (rw bytes at c.index.ensures) 0 ∙ ap (λ (k : ℕ). get_or t.blocks.items k 0) (sym place),
      ),
    )

pub returns : goal.returns
returns c =
    let text = c.args.text.now in
    let at = c.args.at.now in
    let t = c.args.layout.now in
    let h = c.requires.classes in
    let x = c.char_at-c.result in
    let scalar : x < 1114112 = search rules in
    let behind : drop (at + c.len_utf8.result) text ≡ c.char_at-c.ensures.0 =
    ap (λ (n : ℕ). drop (at + n) text) c.len_utf8.ensures.value ∙ drop_past_char text c.char_at-c.ensures.0 at x c.char_at-c.ensures.1 in (
      x,
      (
        record {
          split = c.char_at-c.ensures.1 ∙ ap (λ (r : List ℕ). encode_utf8 x ++ r) (sym behind);
          place = omega (arith, c.len_utf8.ensures.len);
          scalar = scalar;
        },
        c.class.ensures ∙ ap (class_of t) c.from.ensures,
      ),
    )
