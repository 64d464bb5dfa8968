use Rattle.std.specs.Prelude.{reverse}
use Rattle.std.proofs.Common.{◌≡◌, ◌≤◌, take, map, length}
use Rattle.client_api.specs.Held.{named_of}
use Rattle.client_api.specs.Playing.{handle_named}
use Rattle.client_api.proofs.prepare.held.Given as goal

abbrev pub invariant-loop-left : goal.invariant-loop-left
invariant-loop-left l = record {
  within : l.left ≤ length l.handles.items;
  same : handle_named (map named_of (reverse l.handles.items)) l.name ≡ handle_named (map named_of (reverse (take l.left l.handles.items))) l.name;
}

abbrev pub decreases-loop-left : goal.decreases-loop-left
decreases-loop-left l = l.left
