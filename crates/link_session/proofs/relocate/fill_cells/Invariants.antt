use Rattle.std.proofs.Common.{◌≡◌, ◌≤◌, ℕ, ◌+◌, ◌++◌, take, drop, None, slice_index_or}
use Rattle.link_session.specs.{internal.Additions.place_at, internal.Chains.threaded, internal.OwnWords.cells_in_scope}
use Rattle.link_session.proofs.relocate.fill_cells.Given as goal

-- the cells, links and heads so far, with those that are left, make the whole; the links that are left lead nowhere
abbrev pub invariant-loop-i : goal.invariant-loop-i
invariant-loop-i l = record {
  cells : cells_in_scope l.scope l.own_shift l.own.words.now l.own.relocs.now
      ≡ take l.i l.cells ++ cells_in_scope l.scope l.own_shift (drop l.i l.own.words.now) (drop l.i l.own.relocs.now);
  links : (threaded (place_at l.own.segment) l.before
      (cells_in_scope l.scope l.own_shift l.own.words.now l.own.relocs.now) l.initial.heads).0
      ≡ take l.i l.links ++ (threaded (place_at l.own.segment) (l.before + l.i)
      (cells_in_scope l.scope l.own_shift (drop l.i l.own.words.now) (drop l.i l.own.relocs.now)) l.heads).0;
  heads : (threaded (place_at l.own.segment) l.before
      (cells_in_scope l.scope l.own_shift l.own.words.now l.own.relocs.now) l.initial.heads).1
      ≡ (threaded (place_at l.own.segment) (l.before + l.i)
      (cells_in_scope l.scope l.own_shift (drop l.i l.own.words.now) (drop l.i l.own.relocs.now)) l.heads).1;
  unlinked : (k : ℕ) → l.i ≤ k → slice_index_or l.links k None ≡ None;
}
