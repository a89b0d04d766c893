use Rattle.std.proofs.Common.{◌≡◌, List, length, map, get_or, Some, refl, sym, ap, ◌∙◌, subst, arith}
use Rattle.std.specs.Prelude.{IsTrue, slice_get, slice_index_or}
use Rattle.std.proofs.lemmas.List.{get_or_default, take_all}
use Rattle.engine_laws.specs.Manifests.{IsLive}
use Rattle.udt_disk.specs.Joint.{Folder}
use Rattle.recovery.specs.Looks.{Looks}
use Rattle.recovery.specs.Meeting.{AreOnLevels, IsFirstFault}
use Rattle.recovery.specs.Places.{AreLivePlaces, IsTableOpened, IsTableName, RefusesPlace, table_place_of}
use Rattle.recovery.specs.declared.live.TablePlace.{TablePlace}
use Rattle.recovery.specs.declared.tables.Opened.{Opened}
use Rattle.recovery.proofs.Faulting.{first_tables}
use Rattle.recovery.proofs.Looking.{looks_none, looks_then, looks_told, looks_folder}
use Rattle.recovery.proofs.Placed.{AreInOrderAt, EachOpened, all_opened, clash_refused, each_more, live_at, live_place, none_clash, on_levels, places_are}
use Rattle.recovery.proofs.tables.open_tables.Goals as goal

abbrev no_place : TablePlace
no_place = record { family = record { 0 = 0 }; table = record { level = 0; number = 0 } }

pub returns-in_err-places-clause-looks : goal.returns-in_err-places-clause-looks
returns-in_err-places-clause-looks g c = looks_none g.D.Disk g.D.File.DiskFile IsTableName c.args.disk.now

pub loop-place-init : goal.loop-place-init
loop-place-init g c = record {
  places = ap (map table_place_of) c.new-opened.ensures.items;
  each = λ told. subst (EachOpened (g.D.Disk.stands c.args.disk.now) c.args.fold.now) (sym c.new-opened.ensures.items) (λ o f held. absurd held);
  looks = looks_none g.D.Disk g.D.File.DiskFile IsTableName c.args.disk.now;
  faults = refl;
}

pub family_of-family-requires : goal.family_of-family-requires
family_of-family-requires g c =
    let d = g.D.Disk in
    let f = g.D.File.DiskFile in
    let old = c.args.disk.now in
    let mid = c.loop-place.disk in
    let fold = c.args.fold.now in
    let places = c.deref-place-items.result.now in
    let i = c.loop-place.place-index in
    let within = c.loop-place-test.true in
    let p = slice_index_or places i no_place in
    let at : p ≡ get_or places i p = get_or_default places i no_place p within in
    let live : AreLivePlaces fold places = subst (AreLivePlaces fold) (sym c.deref-place-items.ensures.value) c.in_ok-places.ensures in
    let opened = c.loop-place.opened.items in
    let inv = c.loop-place.invariant in
    live_place fold places i p live within at

pub returns-in-Err-clause-refused : goal.returns-in-Err-clause-refused
returns-in-Err-clause-refused g c told =
    let d = g.D.Disk in
    let f = g.D.File.DiskFile in
    let old = c.args.disk.now in
    let mid = c.loop-place.disk in
    let new = c.open_table.new.disk in
    let fold = c.args.fold.now in
    let places = c.deref-place-items.result.now in
    let i = c.loop-place.place-index in
    let within = c.loop-place-test.true in
    let p = slice_index_or places i no_place in
    let at : p ≡ get_or places i p = get_or_default places i no_place p within in
    let live : AreLivePlaces fold places = subst (AreLivePlaces fold) (sym c.deref-place-items.ensures.value) c.in_ok-places.ensures in
    let opened = c.loop-place.opened.items in
    let inv = c.loop-place.invariant in
    let family = c.family_of-family.result.now in
    let there : slice_get fold.families p.family.0 ≡ Some family = c.family_of-family.ensures in
    let islive : IsLive fold p.family family p.table = live_at fold places i p family live within at there in
    let step : Looks d f IsTableName mid new = c.in-Err.ensures.looks in
    let told_mid = subst IsTrue (sym (looks_told d f IsTableName old mid inv.looks)) told in
    let refused = subst (λ (folder : Folder). RefusesPlace folder family p c.in-Err.fault) (looks_folder d f IsTableName old mid inv.looks told) (c.in-Err.ensures.refused told_mid) in
    let first = c.first_fault.ensures.first (subst AreOnLevels (sym c.deref.ensures.value) (on_levels (d.stands old) fold places live i (omega (arith, within)) opened inv.places (inv.each told) c.requires.places.levels)) in
    first_tables (d.stands old) fold places live i within p at opened inv.places (inv.each told) family islive c.in-Err.fault c.first_fault.result refused
    (subst (λ (os : List Opened). IsFirstFault (length fold.families) os c.in-Err.fault c.first_fault.result) c.deref.ensures.value first)

pub returns-in-Err-clause-looks : goal.returns-in-Err-clause-looks
returns-in-Err-clause-looks g c = looks_then g.D.Disk g.D.File.DiskFile IsTableName c.args.disk.now c.loop-place.disk c.open_table.new.disk c.loop-place.invariant.looks c.in-Err.ensures.looks

pub returns-in-Err-push-clause-looks : goal.returns-in-Err-push-clause-looks
returns-in-Err-push-clause-looks g c = looks_then g.D.Disk g.D.File.DiskFile IsTableName c.args.disk.now c.loop-place.disk c.open_table.new.disk c.loop-place.invariant.looks c.in-Ok.ensures.looks

pub loop-place-preserved : goal.loop-place-preserved
loop-place-preserved g c =
    let d = g.D.Disk in
    let f = g.D.File.DiskFile in
    let old = c.args.disk.now in
    let mid = c.loop-place.disk in
    let new = c.open_table.new.disk in
    let fold = c.args.fold.now in
    let places = c.deref-place-items.result.now in
    let i = c.loop-place.place-index in
    let within = c.loop-place-test.true in
    let p = slice_index_or places i no_place in
    let at : p ≡ get_or places i p = get_or_default places i no_place p within in
    let live : AreLivePlaces fold places = subst (AreLivePlaces fold) (sym c.deref-place-items.ensures.value) c.in_ok-places.ensures in
    let opened = c.loop-place.opened.items in
    let inv = c.loop-place.invariant in
    let family = c.family_of-family.result.now in
    let there : slice_get fold.families p.family.0 ≡ Some family = c.family_of-family.ensures in
    let islive : IsLive fold p.family family p.table = live_at fold places i p family live within at there in
    let step : Looks d f IsTableName mid new = c.in-Ok.ensures.looks in
    let o = c.in-Ok.table in
    let is : table_place_of o ≡ p = c.in-Ok.ensures.place in
    let more = c.in-Ok-push.ensures.items in
    record {
      places = ap (map table_place_of) more ∙ places_are places i p opened o within at inv.places is;
      each = λ told.
          let known : IsTableOpened (d.stands old) family o = subst (λ (folder : Folder). IsTableOpened folder family o) (looks_folder d f IsTableName old mid inv.looks told) (c.in-Ok.ensures.opened (subst IsTrue (sym (looks_told d f IsTableName old mid inv.looks)) told)) in
          subst (EachOpened (d.stands old) fold) (sym more) (each_more (d.stands old) fold places live i within p at opened inv.places (inv.each told) family islive o is known);
      looks = looks_then d f IsTableName old mid new inv.looks step;
      faults = c.in-Ok.ensures.kept ∙ inv.faults;
    }

pub returns-in-Ok-None-clause-opened : goal.returns-in-Ok-None-clause-opened
returns-in-Ok-None-clause-opened g c told =
    let places = c.deref-place-items.result.now in
    let fold = c.args.fold.now in
    let folder = g.D.Disk.stands c.args.disk.now in
    let inv = c.loop-place.invariant in
    let i = c.loop-place.place-index in
    let opened = c.loop-place.opened.items in
    let live : AreLivePlaces fold places = subst (AreLivePlaces fold) (sym c.deref-place-items.ensures.value) c.in_ok-places.ensures in
    let all = take_all i places (omega arith) in
    let upto = c.loop-place.auto.place-index-end in
    let on : AreOnLevels opened = on_levels folder fold places live i upto opened inv.places (inv.each told) c.requires.places.levels in
    let first = rw (c.deref-2.ensures.value, c.in-Ok-None.field-0-is) at c.in-Ok-None.ensures in
    all_opened folder fold places opened live (inv.places ∙ all) (inv.each told) (subst (AreInOrderAt folder fold) all (none_clash folder fold places live i upto opened inv.places (inv.each told) (first on)))

pub returns-in-Ok-Some-clause-refused : goal.returns-in-Ok-Some-clause-refused
returns-in-Ok-Some-clause-refused g c told =
    let places = c.deref-place-items.result.now in
    let fold = c.args.fold.now in
    let folder = g.D.Disk.stands c.args.disk.now in
    let inv = c.loop-place.invariant in
    let i = c.loop-place.place-index in
    let opened = c.loop-place.opened.items in
    let live : AreLivePlaces fold places = subst (AreLivePlaces fold) (sym c.deref-place-items.ensures.value) c.in_ok-places.ensures in
    let upto = c.loop-place.auto.place-index-end in
    let on : AreOnLevels opened = on_levels folder fold places live i upto opened inv.places (inv.each told) c.requires.places.levels in
    let first = rw (c.deref-2.ensures.value, c.in-Ok-Some.field-0-is) at c.in-Ok-Some.ensures in
    clash_refused folder fold places live i upto opened inv.places (inv.each told) c.in-Ok-Some.number (first on)
