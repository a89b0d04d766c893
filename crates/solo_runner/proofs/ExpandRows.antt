-- Lines of clients and of the store's own actors: some that are theirs, and some that aren't.
use Rattle.std.proofs.Common.{◌≡◌, ℕ, true, false, List, [], ◌∷◌, codes, Option, Some, None, refl, arith}
use Rattle.udt_model.specs.declared.event.Event.{Event}
use Rattle.udt_model.specs.declared.event.Event.TheVariants as events
use Rattle.udt_model.specs.declared.reply.Reply.{Reply}
use Rattle.udt_model.specs.declared.reply.Reply.TheVariants as replies
use Rattle.udt_model.specs.declared.line.Line.{Line}
use Rattle.udt_model.specs.declared.line.Who.TheVariants.{Client, Flusher, Compactor, Runner}
use Rattle.client_lang.specs.declared.command.Command.{Command}
use Rattle.client_lang.specs.declared.command.Command.TheVariants as commands
use Rattle.solo_runner.specs.Expand.{Expand, IsAskedBy, IsClient}

abbrev line : ℕ → Event → Reply → Line
line n event reply = record { mark = record { number = n; sub = 0 }; who = Client 1; event = event; reply = reply }

abbrev snap : Command
snap = commands.Line (events.Snap (codes "s"))

-- a client under way may hold a snapshot, and gives it up at its end
pub under_way : Expand (snap ∷ []) (line 1 (events.Snap (codes "s")) (replies.OkAt 0) ∷ [])
under_way = (line 1 (events.Snap (codes "s")) (replies.OkAt 0) ∷ [], [], (refl, refl), refl, refl)

pub at_its_end : IsClient (snap ∷ []) (line 1 (events.Snap (codes "s")) (replies.OkAt 0) ∷ line 2 (events.Release (codes "s")) replies.Done ∷ [])
at_its_end = (line 1 (events.Snap (codes "s")) (replies.OkAt 0) ∷ [], line 2 (events.Release (codes "s")) replies.Done ∷ [], under_way, refl, refl)

-- the flusher writes nothing, and pins its own view alone; the compactor picks
pub no_write_of_flusher : IsAskedBy 1 Flusher (events.Write [] false) → ⊥
no_write_of_flusher h = grind (arith)

pub pin_of_flusher : IsAskedBy 1 Flusher (events.Pin (codes "f"))
pin_of_flusher = refl

pub no_other_pin_of_flusher : IsAskedBy 1 Flusher (events.Pin (codes "m")) → ⊥
no_other_pin_of_flusher h = grind (arith)

pub no_whole_compaction : IsAskedBy 1 Compactor (events.CompactStart (codes "d") false) → ⊥
no_whole_compaction h = grind (arith)

pub picked : IsAskedBy 1 Compactor (events.CompactStart (codes "d") true)
picked = refl
