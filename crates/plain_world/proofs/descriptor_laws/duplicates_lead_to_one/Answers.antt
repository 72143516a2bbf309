use Rattle.plain_world.proofs.DupLaws.{dup_leads, dup2_leads, dup2_keeps_equal}
use Rattle.plain_world.proofs.descriptor_laws.duplicates_lead_to_one.Goals as goal

pub returns : goal.returns
returns c = record { dup = dup_leads; dup2 = dup2_leads; equal = dup2_keeps_equal }
