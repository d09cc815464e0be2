use Rattle.std.proofs.Common.{◌≡◌, ◌<◌, length, drop, arith, refl, sym, subst}
use Rattle.std.specs.Prelude.{Some, slice_get}
use Rattle.std.specs.Str.{chars, IsCharBoundary}
use Rattle.std.proofs.lemmas.Option.{slice_get_read}
use Rattle.lalrpop_rules.specs.Internal.Cutting.{Cutting, IsSoughtHere, memo_in}
use Rattle.lalrpop_rules.proofs.Cuts.{cuts_entered, enter_paid}
use Rattle.lalrpop_rules.proofs.cutter.Cutter.enter.Goals as goal

pub index_mut-requires : goal.index_mut-requires
index_mut-requires c = omega (arith, c.self.invariant.cuts.all, subst (λ (s : Cutting). c.args.mode < s.rules.modes) (sym c.self.view_is) c.requires.there)

pub pass_to-requires-clause-behind : goal.pass_to-requires-clause-behind
pass_to-requires-clause-behind c =
    let i = c.self.inside in
    let old = c.index_mut.result.now in
    let is : slice_get i.cuts.items c.args.mode ≡ Some old =
    slice_get_read i.cuts.items (length i.cuts.items) c.args.mode old refl (omega (arith, c.self.invariant.cuts.all, subst (λ (s : Cutting). c.args.mode < s.rules.modes) (sym c.self.view_is) c.requires.there)) c.index_mut.ensures.value in
    (c.self.invariant.cuts.each c.args.mode old is).behind

pub pass_to-requires-clause-boundary : goal.pass_to-requires-clause-boundary
pass_to-requires-clause-boundary c =
    let i = c.self.inside in
    let old = c.index_mut.result.now in
    let is : slice_get i.cuts.items c.args.mode ≡ Some old =
    slice_get_read i.cuts.items (length i.cuts.items) c.args.mode old refl (omega (arith, c.self.invariant.cuts.all, subst (λ (s : Cutting). c.args.mode < s.rules.modes) (sym c.self.view_is) c.requires.there)) c.index_mut.ensures.value in
    subst (λ t. IsCharBoundary t i.at) (sym (c.self.invariant.cuts.each c.args.mode old is).same_text) c.self.invariant.boundary

pub pass_to-requires-clause-sought : goal.pass_to-requires-clause-sought
pass_to-requires-clause-sought c =
    let i = c.self.inside in
    let h = c.self.invariant in
    let old = c.index_mut.result.now in
    let is : slice_get i.cuts.items c.args.mode ≡ Some old =
    slice_get_read i.cuts.items (length i.cuts.items) c.args.mode old refl (omega (arith, c.self.invariant.cuts.all, subst (λ (s : Cutting). c.args.mode < s.rules.modes) (sym c.self.view_is) c.requires.there)) c.index_mut.ensures.value in
    let other = rw (← c.self.view_is) at c.requires.other in
    h.cuts.others c.args.mode old is other

pub invariant_of-self : goal.invariant_of-self
invariant_of-self c =
    let i = c.self.inside in
    let h = c.self.invariant in
    let old = c.index_mut.result.now in
    let within : c.args.mode < length i.cuts.items = omega (arith, c.self.invariant.cuts.all, subst (λ (s : Cutting). c.args.mode < s.rules.modes) (sym c.self.view_is) c.requires.there) in
    let is : slice_get i.cuts.items c.args.mode ≡ Some old = slice_get_read i.cuts.items (length i.cuts.items) c.args.mode old refl within c.index_mut.ensures.value in
    let sought : (memo_in i.mode i.cuts.items).unsought ≡ length (chars (drop i.at i.text.now)) =
    subst (λ (s : Cutting). IsSoughtHere s) (sym c.self.view_is) c.requires.sought in
    record {
      utf8 = h.utf8;
      boundary = h.boundary;
      there = subst (λ (s : Cutting). c.args.mode < s.rules.modes) (sym c.self.view_is) c.requires.there;
      cuts = cuts_entered i.lexer.now i.text.now i.at i.mode c.args.mode i.cuts.items old c.pass_to.new.self h.cuts is within sought c.pass_to.ensures.passes;
    }

pub returns : goal.returns
returns c =
    let i = c.self.inside in
    let h = c.self.invariant in
    let old = c.index_mut.result.now in
    let within : c.args.mode < length i.cuts.items = omega (arith, c.self.invariant.cuts.all, subst (λ (s : Cutting). c.args.mode < s.rules.modes) (sym c.self.view_is) c.requires.there) in
    let is : slice_get i.cuts.items c.args.mode ≡ Some old = slice_get_read i.cuts.items (length i.cuts.items) c.args.mode old refl within c.index_mut.ensures.value in
    let sought : (memo_in i.mode i.cuts.items).unsought ≡ length (chars (drop i.at i.text.now)) =
    subst (λ (s : Cutting). IsSoughtHere s) (sym c.self.view_is) c.requires.sought in
    rw (← c.self.view_is)
    record {
      follows = record {
        enters = refl;
        paid = enter_paid i.lexer.now i.text.now i.at i.mode c.args.mode i.cuts.items old c.pass_to.new.self h.cuts is within sought c.pass_to.ensures.passes;
      };
    }
