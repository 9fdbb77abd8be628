-- Records one after another: where they split, the turns of the walks over them, and one more at the end.
pub mod Splitting
pub mod Walking
pub mod Looking
