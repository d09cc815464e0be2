use Rattle.std.proofs.Common.{◌≡◌, false, [], length, refl, take, ◌∙◌}
use Rattle.bajofeki.proofs.ChunkLaws.{came_first}
use Rattle.uses_rules.proofs.Joining.{came_front, goes_on, same_joined, fault_at}
use Rattle.uses_rules.proofs.feed_chunks.first_pieces.Goals as goal

pub returns : goal.returns
returns c =
    let r = c.args.lexer.now in
    let front = c.args.front.now in
    let fed = c.in_ok-feed.ensures.fed in
    let came = came_front r c.new-chunks.result c.feed.new.self front c.new-chunks.ensures.nothing fed in
    let goes : c.take_pieces.new.chunks.is_ended ≡ false =
    c.in_ok-take_pieces.ensures.ended ∙ goes_on r c.new-chunks.result c.feed.new.self front c.new-chunks.ensures.nothing fed in
    let got = c.in_ok-take_pieces.ensures.taken r front [] came c.new-first.ensures.items in
    record {
      begins = λ back ys end all.
          (length got.0, got.1.1 ∙ same_joined got.0 (take (length got.0) ys) (came_first r front got.0 c.take_pieces.new.chunks got.1.0 goes back ys end all));
      fault = λ begins back ys end all.
          fault_at r front _ got.0 c.take_pieces.new.chunks _ got.1.0 goes (c.begins_fault.ensures.yes begins) got.1.1 refl back ys end all;
    }
