-- What stands in a folder that took back the files of its log and of its manifest.
use Rattle.std.proofs.Common.{◌≡◌, ◌≢◌, inl, inr, ⊎_elim, ◌≤◌, refl, sym, ap, ◌∙◌, subst}
use Rattle.std.specs.Prelude.{Some, IsTrue}
use Rattle.udt_disk.specs.Causes.{plus_faults}
use Rattle.udt_disk.specs.Crash.{Image, NoMore}
use Rattle.udt_disk.specs.Joint.{Folder, IsFree, IsHeld}
use Rattle.udt_disk.specs.declared.name.FileName.{FileName}
use Rattle.udt_disk.specs.declared.name.FileName.TheVariants.{Log}
use Rattle.udt_disk.specs.declared.file.DiskFile as file
use Rattle.udt_disk.specs.declared.disk.Disk as disk
use Rattle.udt_disk.proofs.Names.{same_or_other}
use Rattle.wal.specs.Wals.{wal_file}
use Rattle.head_manifest.specs.Manifest.{manifest_file}
use Rattle.udt_disk.specs.Moments.{alone, holding, OnlyReads}
use Rattle.udt_disk.proofs.Moments.{stands_free, stands_held, leaves_free, leaves_held}
use Rattle.client_runner.specs.Left.{MayBeLeft}
use Rattle.udt_disk.specs.Moments.{IsClean}
use Rattle.plain_recovery.specs.Opening.{IsOpened}
use Rattle.client_runner.specs.Runs.{files_of}
use Rattle.plain_recovery.specs.declared.opening.Parts.{Parts}
use Rattle.client_runner.proofs.LiveLog.{IsSameBut}

module _ {D F : Type 0} (d : disk.Ghosts D F) (f : file.Ghosts F) where
  -- the files of the log and of the manifest were given back
  pub record IsClosed (old new : D) (log manifest : F) : Type 0 where
    pub log_stands : IsTrue (d.is_told old) → IsTrue (f.is_told log) → f.name manifest ≢ f.name log → d.stands new (f.name log) ≡ Some (f.seen log)
    pub log_leaves : f.name manifest ≢ f.name log → NoMore (f.may_leave log) (d.may_leave new (f.name log))
    pub manifest_stands : IsTrue (d.is_told old) → IsTrue (f.is_told manifest) → d.stands new (f.name manifest) ≡ Some (f.seen manifest)
    pub manifest_leaves : NoMore (f.may_leave manifest) (d.may_leave new (f.name manifest))
    pub others : (n : FileName) (c : Image) → n ≢ f.name manifest → n ≢ f.name log → d.may_leave new n c → d.may_leave old n c
    pub others_stand : (n : FileName) → n ≢ f.name manifest → n ≢ f.name log → d.stands new n ≡ d.stands old n
    pub faults : d.faults new ≡ plus_faults (plus_faults (d.faults old) (f.faults log)) (f.faults manifest)
    pub later : d.faults old ≤ d.faults new

  -- a name of neither file is free
  free_of : (old : D) (parts : Parts D F f) (n : FileName) → n ≢ f.name (manifest_file parts.manifest) → n ≢ f.name (wal_file parts.wal) → IsFree d f (holding old (files_of parts)) n
  free_of old parts n not_manifest not_log x (inl is) = subst (λ (z : F). n ≢ f.name z) is not_log
  free_of old parts n not_manifest not_log x (inr (inl is)) = subst (λ (z : F). n ≢ f.name z) is not_manifest
  free_of old parts n not_manifest not_log x (inr (inr none)) = absurd none

  -- no other held file has the manifest's name
  one_manifest : (parts : Parts D F f) → f.name (manifest_file parts.manifest) ≢ f.name (wal_file parts.wal) → (y : F) → IsHeld (files_of parts) y → f.name y ≡ f.name (manifest_file parts.manifest) → manifest_file parts.manifest ≡ y
  one_manifest parts apart y (inl is) same = absurd (apart (sym (ap f.name is ∙ same)))
  one_manifest parts apart y (inr (inl is)) same = is
  one_manifest parts apart y (inr (inr none)) same = absurd none

  -- under each name but that of the live log there stands what stood there
  pub closed_stands : (opened new : D) (parts : Parts D F f) (log : F) → IsTrue (d.is_told opened) → (o : IsOpened d f opened parts) → OnlyReads d f (alone opened) (holding parts.disk (files_of parts))
      → d.is_told parts.disk ≡ d.is_told opened → f.is_told (manifest_file parts.manifest) ≡ d.is_told opened → f.name log ≡ Log o.number
      → IsClosed parts.disk new log (manifest_file parts.manifest) → IsSameBut o.number (d.stands opened) (d.stands new)
  closed_stands opened new parts log told o reads told_disk told_manifest named closed n other =
      let m : F = manifest_file parts.manifest in
      ⊎_elim
      (λ is. ap (d.stands new) is ∙ closed.manifest_stands (subst IsTrue (sym told_disk) told) (subst IsTrue (sym told_manifest) told) ∙ sym (stands_held d f opened parts.disk (files_of parts) reads told m (inr (inl refl)) (λ y held same. ap f.seen (one_manifest parts o.apart y held same))) ∙ ap (d.stands opened) (sym is))
      (λ apart. closed.others_stand n apart (λ is. other (is ∙ named)) ∙ stands_free d f opened parts.disk (files_of parts) reads told n (free_of parts.disk parts n apart (λ is. other (is ∙ o.name))))
      (same_or_other (f.name m) n)

  -- and a crash leaves nothing else
  pub closed_leaf : (opened new : D) (parts : Parts D F f) (log : F) → IsClean d opened → (o : IsOpened d f opened parts) → OnlyReads d f (alone opened) (holding parts.disk (files_of parts)) → f.name log ≡ Log o.number
      → IsClosed parts.disk new log (manifest_file parts.manifest) → (n : FileName) (c : Image) → n ≢ Log o.number → d.may_leave new n c → c ≡ d.stands opened n
  closed_leaf opened new parts log clean o reads named closed n c other left =
      let m : F = manifest_file parts.manifest in
      ⊎_elim
      (λ is. clean n c (subst (λ (k : FileName). d.may_leave opened k c) (sym is) (leaves_held d f opened parts.disk (files_of parts) reads m (inr (inl refl)) (one_manifest parts o.apart) c (closed.manifest_leaves c (subst (λ (k : FileName). d.may_leave new k c) is left)))))
      (λ apart. clean n c (leaves_free d f opened parts.disk (files_of parts) reads n c (free_of parts.disk parts n apart (λ is. other (is ∙ o.name))) (closed.others n c apart (λ is. other (is ∙ named)) left)))
      (same_or_other (f.name m) n)

  pub closed_leaves : (opened new : D) (parts : Parts D F f) (log : F) → IsClean d opened → (o : IsOpened d f opened parts) → OnlyReads d f (alone opened) (holding parts.disk (files_of parts)) → f.name log ≡ Log o.number
      → IsClosed parts.disk new log (manifest_file parts.manifest) → (folder : Folder) → MayBeLeft (d.may_leave new) folder → IsSameBut o.number (d.stands opened) folder
  closed_leaves opened new parts log clean o reads named closed folder left n other = closed_leaf opened new parts log clean o reads named closed n (folder n) other (left n)
