-- Numbers as ids, and what is made of ids.
use Rattle.std.proofs.Common.{ℕ}
use Rattle.shunt_base.specs.declared.ids.PlatformId.{PlatformId}
use Rattle.shunt_base.specs.declared.ids.TrackId.{TrackId}
use Rattle.shunt_base.specs.declared.ids.TypeId.{TypeId}
use Rattle.shunt_base.specs.declared.ids.Side.{Side}
use Rattle.shunt_instance.specs.declared.records.Permit.{Permit}

abbrev pub platform_id : ℕ → PlatformId
platform_id k = record { 0 = k }

abbrev pub track_id : ℕ → TrackId
track_id k = record { 0 = k }

abbrev pub type_id : ℕ → TypeId
type_id k = record { 0 = k }

abbrev pub way_from : PlatformId → TrackId → Side → PlatformId × (TrackId × Side)
way_from p t q = (p, (t, q))

abbrev pub permit_from : TrackId → TypeId → Permit
permit_from t k = record { track = t; kind = k }
