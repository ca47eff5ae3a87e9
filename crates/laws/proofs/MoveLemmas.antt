-- How far the segments of objects are moved.
use Rattle.std.proofs.Common.{◌≡◌, ℕ, ◌+◌, ◌-◌, List, refl, ◌∙◌, ap, arith, rules}
use Rattle.aout_core.specs.{declared.symbol.Segment.TheVariants.{TextSeg, DataSeg, BssSeg}, Addresses.{data_start, data_start_in}}
use Rattle.aout_core.specs.{declared.symbol.Segment.Segment, Contents.Contents, Words.{plus, minus}}
use Rattle.link_session.specs.{Starts.total, Starts.own}
use Rattle.tool_options.specs.{declared.options.Layout.Layout, declared.options.Layout.TheVariants.{Plain, Pure, Split}, Choices.Choices}
use Rattle.link_out.specs.{Layouts.{data_base, magic_of}, function.Plans.plan, function.Words.move, function.Link.linked_file}
use Rattle.laws.specs.relation.Relocated.{move_in}

sum_moved : (b t n : ℕ) → plus b (minus t n) ≡ minus (b + t) n
sum_moved b t n = omega arith

-- what is left of a sum
pub rest_back : (c t : ℕ) → (c + t) - t ≡ c
rest_back c t = omega arith

-- data begins where the magic of the layout says
pub data_begun : (layout : Layout) (t : ℕ) → data_base layout t ≡ data_start (magic_of layout) t
data_begun Plain t = refl
data_begun Pure t = refl
data_begun Split t = refl

-- how far a segment moves, by the header of the linked file
pub move_by_header : (forced : List (List ℕ)) (os : List Contents) (o : Choices) (before : List Contents) (k : Contents)
    (segment : Segment) →
    move (plan forced os o).at before k segment ≡ move_in (linked_file (plan forced os o) os).header os before k segment
move_by_header forced os o before k TextSeg = sum_moved 0 (total TextSeg before) 0
move_by_header forced os o before k DataSeg =
    ap (λ (b : ℕ). plus b (minus (total DataSeg before) (own k DataSeg))) (data_begun o.layout (total TextSeg os))
    ∙ sum_moved (data_start_in (linked_file (plan forced os o) os).header) (total DataSeg before) (own k DataSeg)
move_by_header forced os o before k BssSeg = search (rules, data_begun, rest_back, sum_moved)
move_by_header forced os o before k segment = refl
