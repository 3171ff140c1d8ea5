-- a column that counts where the level is odd
pub mod OddColumns
