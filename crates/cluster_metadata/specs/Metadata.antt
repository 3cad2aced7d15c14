-- The directory of metadata.
use Rattle.node_directory.specs.Directory.{Registry}
use Rattle.transformations.specs.declared.image.Image.{Image}

-- the directory of an image's nodes
abbrev pub directory_of : Image → Registry
directory_of image = record { rows = image.nodes; next = image.next }
