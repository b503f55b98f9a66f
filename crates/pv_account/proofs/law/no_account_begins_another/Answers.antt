use Rattle.pv_fields.proofs.Readings.{Reads-back}
use Rattle.pv_account.specs.Profile.{IsProfile, profile_bytes, profile_at}
use Rattle.pv_account.proofs.CallerLemmas.{Reads-profile}
use Rattle.pv_account.proofs.law.no_account_begins_another.Goals as goal

pub returns : goal.returns
returns c = Reads-back IsProfile profile_bytes profile_at Reads-profile
