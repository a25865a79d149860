mod Plans
mod Pulls
mod Tables
