use Rattle.std.proofs.Common.{◌≡◌, ◌≤◌, ◌<◌, ℕ, ◌+◌, ◌-◌, List, ◌++◌, ◌∷◌, [], length, take, drop, get_or, inl, inr, sym, ap, ◌∙◌, subst, refl, rules, arith}
use Rattle.std.specs.Prelude.{IsTrue}
use Rattle.udt_disk.specs.Crash.{Image}
use Rattle.udt_disk.proofs.Runs.{no_read, read_then}
use Rattle.gate_log.specs.Reads.{IsFront}
use Rattle.gate_log.specs.Placed.{Placed}
use Rattle.gate_log.specs.Fronts.{IsFrontOf, TellsNext}
use Rattle.gate_log.specs.declared.image.Next.TheVariants.{Bad, Frame}
use Rattle.gate_log.proofs.Reading.{reads_more, bad_there}
use Rattle.gate_log.proofs.Fronts.{longer, body_there}
use Rattle.std.proofs.lemmas.List.{take_rest}
use Rattle.gate_log.proofs.image.read_frames.Goals as goal

pub loop-frames-init : goal.loop-frames-init
loop-frames-init g c =
    let f = g.F.DiskFile in
    let file = c.args.file.now in
    let only_now = λ (image : Image) (left : f.left_since file (f.moment file) image). (g.met.F.DiskFile g.world.𝓛 g.world.𝓜 g.world.𝓡 ((λ s x. x), (λ x. x), (λ x. x), λ x. x)).only_now file image left in
    let all = f.seen file in
    (no_read f file only_now, refl, omega arith, λ told. subst (λ (l : List ℕ). IsFrontOf l all) (sym c.in_ok-front.ensures) (record { behind = all; is = refl }), λ told. subst (λ (l : List Placed). IsFront l 0 all) (sym c.new-frames.ensures.items) (record { is = refl; end = refl; fit = tt; places = refl }), λ told. inl refl)

pub returns-in-Bad-clause-refused : goal.returns-in-Bad-clause-refused
returns-in-Bad-clause-refused g c told =
    let all = g.F.DiskFile.seen c.args.file.now in
    let frames = c.loop-frames.frames.items in
    let at = c.loop-frames.at in
    let kept = c.loop-frames.invariant in
    let front : IsFront frames at all = kept.4 told in
    let next : TellsNext Bad at all = subst (λ (l : List ℕ). TellsNext Bad at l) kept.0.seen (rw c.in-Bad.is at c.in_ok-next_at.ensures.next (subst IsTrue (sym kept.0.told) told)) in
    bad_there frames at all front (kept.5 told) next

pub loop-frames-preserved : goal.loop-frames-preserved
loop-frames-preserved g c =
    let f = g.F.DiskFile in
    let all = f.seen c.args.file.now in
    let frames = c.loop-frames.frames.items in
    let at = c.loop-frames.at in
    let n = c.in-Frame.n in
    let kept = c.loop-frames.invariant in
    let bytes = c.next_at.new.front.bytes.items in
    let still = λ (told : IsTrue (f.is_told c.args.file.now)). subst IsTrue (sym kept.0.told) told in
    let front = λ (told : IsTrue (f.is_told c.args.file.now)). subst (λ (l : List ℕ). IsFrontOf bytes l) kept.0.seen (c.in_ok-next_at.ensures.front (still told)) in
    let next = λ (told : IsTrue (f.is_told c.args.file.now)). subst (λ (l : List ℕ). TellsNext (Frame n) at l) kept.0.seen (rw c.in-Frame.is at c.in_ok-next_at.ensures.next (still told)) in
    let body : at + n + 6 ≤ length bytes = rw c.in-Frame.is at c.in_ok-next_at.ensures.body in
    let laid : take n (drop 4 (drop (at + 1) bytes)) ≡ take n (drop 4 (take (length c.deref.result.now - (at + 1)) (drop (at + 1) c.deref.result.now))) =
    ap (λ (l : List ℕ). take n (drop 4 l)) (sym (take_rest c.deref.result.now (at + 1) ∙ ap (λ (l : List ℕ). drop (at + 1) l) c.deref.ensures.value)) in
    let more = λ (told : IsTrue (f.is_told c.args.file.now)) (here : IsFrontOf bytes all) (next : TellsNext (Frame n) at all).
    subst (λ (l : List Placed). IsFront l (at + (n + 5)) all)
    (ap (λ (b : List ℕ). frames ++ record { at = at; bytes = b } ∷ []) (body_there at n bytes all here body ∙ laid) ∙ sym c.in_ok-push_frame-in-Frame.ensures)
    (reads_more frames at n all (kept.4 told) next.0 next.1 next.2) in (
      read_then f c.args.file.now c.loop-frames.file c.next_at.new.file kept.0 c.next_at.ensures.same,
      c.in_ok-next_at.ensures.kept ∙ kept.1,
      omega (arith, body),
      front,
      λ told. more told (front told) (next told),
      λ told. inr (omega (arith, body, longer bytes all (front told))),
    )
