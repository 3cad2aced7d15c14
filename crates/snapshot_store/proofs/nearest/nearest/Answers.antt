use Rattle.std.proofs.Common.{◌≡◌, ◌+◌, ◌-◌, ◌<◌, length, sym, subst, arith}
use Rattle.std.proofs.lemmas.Result.{IfOk-weaker}
use Rattle.transformations.specs.declared.image.Image.{Image}
use Rattle.snapshot_store.specs.code.NearestImage.{IsNearest}
use Rattle.snapshot_store.proofs.NearestImages.{nearest_found}
use Rattle.snapshot_store.proofs.nearest.nearest.Goals as goal

pub returns : goal.returns
returns c =
    let images = c.args.images.now in
    let count = c.count_to-count.result in
    let within : count - 1 < length images = omega arith in
    let next : count ≡ count - 1 + 1 = omega arith in
    let near = nearest_found images c.args.e count c.requires c.count_to-count.ensures.split (count - 1) c.index-images-last.result within next c.index-images-last.is in
    IfOk-weaker c.copy.result (λ (image : Image). image ≡ c.index-images-last.result) (IsNearest images c.args.e) (λ image is. subst (IsNearest images c.args.e) (sym is) near) c.copy.ensures
