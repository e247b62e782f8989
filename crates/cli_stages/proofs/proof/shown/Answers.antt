use Rattle.std.proofs.Common.{refl}
use Rattle.field_plan.specs.Placed.{place_view}
use Rattle.cli_refusals.specs.declared.proof_lines.ProofCause.TheVariants.{NotProof, NotWhole, HashDiffers, DepthDiffers, WrongRoot}
use Rattle.cli_stages.proofs.Shows.{refused, shows, stuck}
use Rattle.cli_stages.proofs.proof.shown.Goals as goal

pub returns-in-Ok : goal.returns-in-Ok
returns-in-Ok c = shows _ _ _ _ _ c.schema-schema.ensures.kept c.in-Ok.ensures

pub returns-in-Err-NotProof : goal.returns-in-Err-NotProof
returns-in-Err-NotProof c =
    refused _ _ _ _ NotProof _ _ refl (rw c.in-Err-NotProof.field-0-is at c.in-Err-NotProof.ensures) c.refused_by.ensures

pub returns-in-Err-NotWhole : goal.returns-in-Err-NotWhole
returns-in-Err-NotWhole c =
    refused _ _ _ _ NotWhole _ _ refl (rw c.in-Err-NotWhole.field-0-is at c.in-Err-NotWhole.ensures)
    c.refused_by-in-Err-NotWhole.ensures

pub returns-in-Err-HashDiffers : goal.returns-in-Err-HashDiffers
returns-in-Err-HashDiffers c =
    refused _ _ _ _ (HashDiffers c.in-Err-HashDiffers.kept c.in-Err-HashDiffers.found) _ _ refl
    (rw c.in-Err-HashDiffers.field-0-is at c.in-Err-HashDiffers.ensures) c.refused_by-in-Err-HashDiffers.ensures

pub returns-in-Err-DepthDiffers : goal.returns-in-Err-DepthDiffers
returns-in-Err-DepthDiffers c =
    refused _ _ _ _ (DepthDiffers c.in-Err-DepthDiffers.kept c.in-Err-DepthDiffers.found) _ _ refl
    (rw c.in-Err-DepthDiffers.field-0-is at c.in-Err-DepthDiffers.ensures) c.refused_by-in-Err-DepthDiffers.ensures

pub returns-in-Err-WrongRoot : goal.returns-in-Err-WrongRoot
returns-in-Err-WrongRoot c =
    refused _ _ _ _ (WrongRoot c.in-Err-WrongRoot.found) _ _ refl (rw c.in-Err-WrongRoot.field-0-is at c.in-Err-WrongRoot.ensures)
    c.refused_by-in-Err-WrongRoot.ensures

pub returns-in-Err-Stuck : goal.returns-in-Err-Stuck
returns-in-Err-Stuck c =
    stuck _ _ _ _ (place_view c.in-Err-Stuck.place) _ c.schema-schema.ensures.kept
    (rw c.in-Err-Stuck.field-0-is at c.in-Err-Stuck.ensures) c.refused.ensures
