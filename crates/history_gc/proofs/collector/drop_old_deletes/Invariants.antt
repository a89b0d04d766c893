use Rattle.std.proofs.Common.{◌≡◌, ◌≤◌, length, take, drop}
use Rattle.std.specs.VecDeque.{deque_capacity}
use Rattle.history_gc.specs.Streaming.{is_old_delete, trim}
use Rattle.history_gc.proofs.collector.drop_old_deletes.Given as goal

abbrev pub invariant-loop-floor : goal.invariant-loop-floor
invariant-loop-floor l = record {
  within : l.decided ≤ length l.queue.items;
  shorter : length l.queue.items ≤ length l.initial.queue.items;
  capacity : deque_capacity l.queue ≡ deque_capacity l.initial.queue;
  front : take l.decided l.queue.items ≡ take l.decided l.initial.queue.items;
  run : trim (is_old_delete l.floor) (drop l.decided l.queue.items) ≡ trim (is_old_delete l.floor) (drop l.decided l.initial.queue.items);
}

abbrev pub decreases-loop-floor : goal.decreases-loop-floor
decreases-loop-floor l = length l.queue.items
