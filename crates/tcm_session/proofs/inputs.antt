-- Scripts that are read in pieces, and scripts that are sent again.
pub mod BegunLines
pub mod PieceLoop
pub mod ReadLemmas
pub mod SentFiles
pub mod SentLemmas
