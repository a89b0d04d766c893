use Rattle.std.proofs.Common.{◌≡◌, ◌∷◌, [], ℕ, Bool, inl, refl, sym, ap, ◌∙◌, subst}
use Rattle.std.specs.Prelude.{IsTrue}
use Rattle.ts_key.specs.declared.numbers.Seq.{Seq}
use Rattle.udt_disk.specs.Causes.{IsCause}
use Rattle.udt_disk.specs.Crash.{Image}
use Rattle.udt_disk.specs.Moments.{alone, holding}
use Rattle.udt_disk.specs.declared.name.FileName.{FileName}
use Rattle.udt_disk.specs.declared.name.FileName.TheVariants.{Log}
use Rattle.udt_disk.proofs.Moments.{Giving, only_then, stands_held, return_step}
use Rattle.udt_disk.proofs.TouchLemmas.{touches_one}
use Rattle.wal.specs.Replays.{ReadsAs}
use Rattle.plain_recovery.specs.Stores.{sizes_of}
use Rattle.plain_recovery.proofs.OpeningLemmas.{only, chosen_isn't_log, refused_store, log_same, log_no_more, log_is_free}
use Rattle.plain_recovery.proofs.opening.open_store.Goals as goal

pub returns-in-Err-clause-refused : goal.returns-in-Err-clause-refused
returns-in-Err-clause-refused g c told = c.manifest_fault.ensures.refused (g.D.Disk.stands c.args.disk) (c.in-Err.ensures.means told)

pub returns-in-Err-clause-cause : goal.returns-in-Err-clause-cause
returns-in-Err-clause-cause g c =
    subst (λ (b : Bool). IsCause b (g.D.Disk.faults c.args.disk) (g.D.Disk.faults c.read.new.disk)) (sym c.manifest_fault.ensures.cause) c.in-Err.ensures.cause

pub returns-in-Ok-clause-opened : goal.returns-in-Ok-clause-opened
returns-in-Ok-clause-opened g c told =
    let d = g.D.Disk in
    let f = g.D.File.DiskFile in
    let old = c.args.disk in
    let mid = c.read.new.disk in
    let m = c.in-Ok-Some.read.0.log.file in
    let e = rw c.in-Ok-Some.field-0-is at c.in-Ok-Some.ensures in
    let number = c.live_log-number.result in
    let w = c.in-Ok.wal.log.file in
    let new = c.open_log.new.disk in
    let told_mid = subst IsTrue (sym e.touches.told) told in
    let t = c.in-Ok.ensures.taken told_mid in
    let name = Log number in
    let same : d.stands mid name ≡ d.stands old name = log_same d f old mid e.touches number in
    record {
      fold = c.in-Ok-Some.read.1;
      means = e.means told;
      number = number;
      live = c.live_log-number.ensures.live;
      batches = t.batches;
      manifest_name = e.name told;
      manifest_stood = ap (d.stands old) (sym (e.name told)) ∙ stands_held d f old mid (m ∷ []) e.reads told m (inl refl) (λ y held is. ap f.seen (only m y held));
      shows = e.shows told;
      manifest_rests = λ clean. e.rests told (λ image left. clean _ image left);
      name = t.name;
      stood = sym same ∙ ap (d.stands mid) (sym t.name) ∙ stands_held d f mid new (w ∷ []) (c.in-Ok.ensures.reads [] (λ x held. absurd held)) told_mid w (inl refl) (λ y held is. ap f.seen (only w y held));
      apart = λ is. chosen_isn't_log (d.stands old) number (sym (e.name told) ∙ is ∙ t.name);
      sizes = c.in-Ok.ensures.sizes;
      held = subst (λ (image : Image). ReadsAs (sizes_of c.in-Ok-Some.read.1) t.batches image) same t.held;
      shown = t.shown;
      rests = λ clean. t.rests (λ image left. clean name image (log_no_more d f old mid e.touches number image left) ∙ sym same);
      heads = t.said_is.heads;
      versions = t.said_is.versions;
      last = ap (λ (n : ℕ). (let s : Seq = record { 0 = n } in s)) t.said_is.last;
    }

pub returns-in-Ok-clause-reads : goal.returns-in-Ok-clause-reads
returns-in-Ok-clause-reads g c =
    let d = g.D.Disk in
    let f = g.D.File.DiskFile in
    let old = c.args.disk in
    let mid = c.read.new.disk in
    let m = c.in-Ok-Some.read.0.log.file in
    let e = rw c.in-Ok-Some.field-0-is at c.in-Ok-Some.ensures in
    let number = c.live_log-number.result in
    let w = c.in-Ok.wal.log.file in
    let new = c.open_log.new.disk in
    only_then d f (λ n. ⊥) (alone old) (holding mid (m ∷ [])) (holding new (w ∷ m ∷ [])) e.reads (c.in-Ok.ensures.reads (m ∷ []) (log_is_free d f mid m number e.either))

pub returns-clause-refused : goal.returns-clause-refused
returns-clause-refused g c told =
    let d = g.D.Disk in
    let f = g.D.File.DiskFile in
    let old = c.args.disk in
    let mid = c.read.new.disk in
    let m = c.in-Ok-Some.read.0.log.file in
    let e = rw c.in-Ok-Some.field-0-is at c.in-Ok-Some.ensures in
    let number = c.live_log-number.result in
    let told_mid = subst IsTrue (sym e.touches.told) told in
    refused_store (d.stands old) (d.stands mid) c.in-Ok-Some.read.1 number c.in-Err-open_log.fault (e.means told) c.live_log-number.ensures.live (log_same d f old mid e.touches number) (c.in-Err-open_log.ensures.refused told_mid)

pub returns-clause-gives_back : goal.returns-clause-gives_back
returns-clause-gives_back g c =
    let d = g.D.Disk in
    let f = g.D.File.DiskFile in
    let disk_now = λ (x : _) (n : FileName) (image : Image) (left : d.left_since x (d.moment x) n image). (g.met.D.Disk g.world.𝓛 g.world.𝓜 g.world.𝓡 ((λ s x. x), (λ x. x), (λ x. x), λ x. x)).only_now x n image left in
    let file_now = λ (x : _) (image : Image) (left : f.left_since x (f.moment x) image). (g.met.D.File.DiskFile g.world.𝓛 g.world.𝓜 g.world.𝓡 ((λ s x. x), (λ x. x), (λ x. x), λ x. x)).only_now x image left in
    let old = c.args.disk in
    let mid = c.read.new.disk in
    let m = c.in-Ok-Some.read.0.log.file in
    let e = rw c.in-Ok-Some.field-0-is at c.in-Ok-Some.ensures in
    let number = c.live_log-number.result in
    let two = c.open_log.new.disk in
    let new = c.retire.new.self in
    let r = c.retire.ensures in
    let back = c.into_file.result in
    let second = c.in-Err-open_log.ensures.reads (m ∷ []) (log_is_free d f mid m number e.either) in
    let reads = only_then d f (λ n. ⊥) (alone old) (holding mid (m ∷ [])) (holding two (m ∷ [])) e.reads second in
    let giving : Giving d f two new back = record { touches = touches_one d _ (f.name back) two new (λ n apart. apart) r.others r.time r.told r.model; stands = r.stands; crash = r.crash } in
    only_then d f (λ n. ⊥) (alone old) (holding two (m ∷ [])) (alone new) reads
    (return_step d f disk_now file_now [] two new m (subst (Giving d f two new) c.into_file.ensures giving) (e.file_told ∙ sym reads.told) (λ x held. absurd held))
